-- Worked lines of verdicts and of intervals.
use Rattle.std.specs.Prelude.{◌≡◌, refl, codes}
use Rattle.std.specs.Fmt.{digits}
use Rattle.rx_edf.specs.declared.verdicts.EdfVerdict.TheVariants.{Yes, No, Wide, Long}
use Rattle.rx_report.specs.SpanLines.{edf_line, window_line}

pub all_fits : edf_line Yes ≡ codes "test yes\n"
all_fits = refl

pub one_time_fails : edf_line (No 3 4) ≡ codes "test no t 3 need 4\n"
unfolding digits
one_time_fails = refl

pub wide_cycle : edf_line Wide ≡ codes "test wide\n"
wide_cycle = refl

pub many_times : edf_line (Long 124999999999) ≡ codes "test long 124999999999\n"
unfolding digits
many_times = refl

pub an_interval : window_line 0 100 3 7 ≡ codes "window 0 100 retries 3 preemptions 7\n"
unfolding digits
an_interval = refl
