use Rattle.std.proofs.Common.{arith, inl, inr}
use Rattle.rx_shape.specs.Nodes.{first_of}
use Rattle.rx_shape.proofs.Quiet.{no_set}
use Rattle.rx_nodes.proofs.Wanting.{length-read, none_stale, kept_settled, added_settled, removed_settled}
use Rattle.rx_nodes.proofs.Stepping.{no_cell}
use Rattle.rx_nodes.proofs.nodes.NodesShape.want.Goals as goal

pub returns-in-Along-clause-wants : goal.returns-in-Along-clause-wants
returns-in-Along-clause-wants c =
    let s = c.args.self.now in
    let going = s.says.along c.in-Along.place c.in-Along.is in
    let room = going.room in
    let many = length-read (first_of s.head) s.nodes.items in
    rw (c.in-Along.is) (going.here, omega arith)

pub returns-in-Spare-clause-wants : goal.returns-in-Spare-clause-wants
returns-in-Spare-clause-wants c =
    let s = c.args.self.now in
    let added = s.says.spare c.in-Spare.before c.in-Spare.kept c.in-Spare.is in
    let few = added.0.few in
    let many = length-read (first_of s.head) s.nodes.items in
    rw (c.in-Spare.is, c.spare_of.ensures.value) (added.2, omega arith)

pub returns-in-Broken-clause-wants : goal.returns-in-Broken-clause-wants
returns-in-Broken-clause-wants c =
    let s = c.args.self.now in
    let broken = s.says.broken c.in-Broken.is in
    rw (c.in-Broken.is) (none_stale s.home s.form s.places s.call s.fits c.args.root s.head s.nodes.items broken.0 broken.1)

pub returns-in-Kept-clause-wants : goal.returns-in-Kept-clause-wants
returns-in-Kept-clause-wants c =
    let s = c.args.self.now in
    elim c.in-Kept.is [
      | inl kept ↦
          let told = s.says.kept kept.0 kept.1 in
          rw (kept.1) (kept_settled s.home s.form s.places s.call s.fits c.args.root s.head s.nodes.items told.0.inside kept.0 told.1 c.quiet_calls_stay.ensures.only (no_set s.home.part.kind s.home.part.cap s.call (no_cell s.home.part.kind s.form) s.fits))
      | inr more ↦ elim more [
        | inl adding ↦
            let told = s.says.adding adding.0 adding.1 adding.2 adding.3 in
            rw (adding.3) (added_settled s.home s.form s.places s.call s.fits c.args.root s.head s.nodes.items told.0.inside adding.0 adding.1 adding.2 told.1 told.2)
        | inr removing ↦
            let told = s.says.removing removing in
            rw (removing) (removed_settled s.home s.form s.places s.call s.fits c.args.root s.head s.nodes.items told.0.inside told.1)
      ]
    ]
