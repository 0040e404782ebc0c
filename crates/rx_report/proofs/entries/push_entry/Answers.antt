use Rattle.std.proofs.Common.{rules, append_assoc}
use Rattle.rx_report.proofs.entries.push_entry.Goals as goal

pub returns-clause-text : goal.returns-clause-text
returns-clause-text c =
    rw (c.push_field.ensures.text, c.push_reply.ensures.text, c.push_request.ensures.text, c.push_job.ensures.text, c.made_by-item.ensures.job, c.made_by-item.ensures.item) (search (rules, append_assoc))
