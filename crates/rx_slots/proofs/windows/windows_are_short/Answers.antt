use Rattle.rx_slots.proofs.Families.{window_slots}
use Rattle.rx_slots.proofs.WindowLaw.{window_length, spoiled_covers}
use Rattle.rx_slots.proofs.windows.windows_are_short.Goals as goal

pub returns-clause-slots : goal.returns-clause-slots
returns-clause-slots c = window_slots

pub returns-clause-length : goal.returns-clause-length
returns-clause-length c = λ system family charges a b valid keeps window. window_length system family charges a b valid window keeps

pub returns-clause-spoiled : goal.returns-clause-spoiled
returns-clause-spoiled c = λ system family charges a b valid keeps busy covers.
    window_length system family charges a b valid (record { busy = busy; covers = spoiled_covers system family charges a b covers }) keeps
