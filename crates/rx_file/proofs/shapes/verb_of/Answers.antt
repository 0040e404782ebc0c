use Rattle.std.proofs.Common.{◌≡◌, ◌<◌, ◌∙◌, ◌+◌, ℕ, Bool, false, List, length, get_or, drop, refl, arith}
use Rattle.std.specs.List.{find}
use Rattle.std.specs.Str.{bytes_eq}
use Rattle.std.proofs.lemmas.List.{drop_more}
use Rattle.rx_file.specs.declared.shapes.Verb.{Verb}
use Rattle.rx_file.specs.declared.shapes.Verb.TheVariants.{Get}
use Rattle.rx_file.specs.Shapes.{word_of, verbs}
use Rattle.rx_file.proofs.shapes.verb_of.Goals as goal

-- an element that does not pass is passed over
find_next : (p : Verb → Bool) (all : List Verb) (place : ℕ) (d : Verb) → place < length all → p (get_or all place d) ≡ false
    → find p (drop place all) ≡ find p (drop (place + 1) all)
find_next p all place d within other = rw (drop_more all place d within, other) refl

pub loop-verb-preserved : goal.loop-verb-preserved
loop-verb-preserved c =
    let p : Verb → Bool = λ verb. bytes_eq (word_of verb) c.args.word.now in
    c.loop-verb.invariant ∙ find_next p verbs c.loop-verb.verb-index Get (omega arith) (cc)
