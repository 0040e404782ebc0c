use Rattle.rx_object.proofs.Lone.{lone_done, lone_lost, lone_spent}
use Rattle.rx_object.proofs.laws.lone_seats_lose_nothing.Goals as goal

pub returns : goal.returns
returns c = record {
  done = lone_done;
  lost = lone_lost;
  spent = lone_spent;
}
