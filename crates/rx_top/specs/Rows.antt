-- Worked words.
use Rattle.std.specs.Prelude.{◌≡◌, refl, [], ◌∷◌, codes, Some, None}
use Rattle.rx_top.specs.declared.words.Query.TheVariants.{Run, Admit, Lanes}
use Rattle.rx_top.specs.declared.words.Command.TheVariants.{Ask, Draw}
use Rattle.rx_top.specs.Words.{command_of}

pub words_most : command_of (codes "run" ∷ codes "1000000" ∷ []) ≡ Some (Ask (Run 1000000))
words_most = refl

pub words_more : command_of (codes "run" ∷ codes "1000001" ∷ []) ≡ None
words_more = refl

pub words_negative : command_of (codes "run" ∷ codes "-1" ∷ []) ≡ None
words_negative = refl

pub words_alone : command_of (codes "run" ∷ []) ≡ None
words_alone = refl

pub words_none : command_of [] ≡ None
words_none = refl

pub words_zeros : command_of (codes "run" ∷ codes "007" ∷ []) ≡ Some (Ask (Run 7))
words_zeros = refl

pub words_twenty_digits : command_of (codes "run" ∷ codes "00000000000000000007" ∷ []) ≡ Some (Ask (Run 7))
words_twenty_digits = refl

pub words_more_digits : command_of (codes "run" ∷ codes "000000000000000000007" ∷ []) ≡ None
words_more_digits = refl

pub words_empty : command_of (codes "run" ∷ [] ∷ []) ≡ None
words_empty = refl

pub words_third : command_of (codes "run" ∷ codes "10" ∷ codes "x" ∷ []) ≡ None
words_third = refl

pub words_other : command_of (codes "RUN" ∷ codes "10" ∷ []) ≡ None
words_other = refl

pub words_admit : command_of (codes "admit" ∷ []) ≡ Some (Ask Admit)
words_admit = refl

pub words_admit_and_more : command_of (codes "admit" ∷ codes "3" ∷ []) ≡ None
words_admit_and_more = refl

pub words_admits : command_of (codes "admits" ∷ []) ≡ None
words_admits = refl

pub words_draw : command_of (codes "gen" ∷ codes "0" ∷ []) ≡ Some (Draw 0)
words_draw = refl

pub words_draw_most : command_of (codes "gen" ∷ codes "18446744073709551615" ∷ []) ≡ Some (Draw 18446744073709551615)
words_draw_most = refl

pub words_draw_more : command_of (codes "gen" ∷ codes "18446744073709551616" ∷ []) ≡ None
words_draw_more = refl

pub words_draw_alone : command_of (codes "gen" ∷ []) ≡ None
words_draw_alone = refl

pub words_lanes : command_of (codes "lanes" ∷ codes "4" ∷ codes "50" ∷ []) ≡ Some (Ask (Lanes 4 50))
words_lanes = refl

pub words_lanes_most : command_of (codes "lanes" ∷ codes "0016" ∷ codes "200" ∷ []) ≡ Some (Ask (Lanes 16 200))
words_lanes_most = refl

pub words_no_lane : command_of (codes "lanes" ∷ codes "0" ∷ codes "5" ∷ []) ≡ None
words_no_lane = refl

pub words_lanes_more : command_of (codes "lanes" ∷ codes "17" ∷ codes "1" ∷ []) ≡ None
words_lanes_more = refl

pub words_no_job : command_of (codes "lanes" ∷ codes "1" ∷ codes "0" ∷ []) ≡ None
words_no_job = refl

pub words_jobs_more : command_of (codes "lanes" ∷ codes "1" ∷ codes "201" ∷ []) ≡ None
words_jobs_more = refl

pub words_lanes_without_jobs : command_of (codes "lanes" ∷ codes "1" ∷ []) ≡ None
words_lanes_without_jobs = refl

pub words_lanes_and_more : command_of (codes "lanes" ∷ codes "1" ∷ codes "1" ∷ codes "1" ∷ []) ≡ None
words_lanes_and_more = refl
