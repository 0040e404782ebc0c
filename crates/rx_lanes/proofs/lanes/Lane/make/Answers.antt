use Rattle.std.proofs.Common.{refl}
use Rattle.rx_lanes.proofs.Making.{adds_one, adds_spent}
use Rattle.rx_lanes.proofs.lanes.Lane.make.Goals as goal

pub returns-in-Done : goal.returns-in-Done
returns-in-Done g c =
    adds_one c.args.shared.now c.args.self.now _ c.args.object c.args.call c.operate.ensures.ours refl refl c.push_reserved.ensures.capacity c.in-Done.reply c.in-Done.tag c.in-Done.retries c.push_reserved.ensures.items c.in-Done.ensures.tells

pub returns-in-Spent : goal.returns-in-Spent
returns-in-Spent g c =
    adds_spent c.args.shared.now c.args.self.now _ c.args.object c.args.call c.operate.ensures.ours refl refl refl c.in-Spent.tag c.in-Spent.ensures.tells.0 refl c.in-Spent.ensures.tells.1
