-- What the properties of a program that trees stand for are judged on is typed.
use Rattle.qk_sound.specs.Laws.{DrawnCasesAreTyped, ShrunkCasesAreTyped}
use Rattle.qk_sound.proofs.Programs.{programs_typed}
use Rattle.qk_typed.proofs.Candidates.{candidates_typed}
use Rattle.qk_typed.proofs.DrawnValues.{judged_typed}

pub drawn_cases_typed : DrawnCasesAreTyped
drawn_cases_typed trees core is i p size g u at none = judged_typed core (programs_typed trees core is) i p size g u at none

pub shrunk_cases_typed : ShrunkCasesAreTyped
shrunk_cases_typed trees core is i p values fuel at h = candidates_typed core (programs_typed trees core is) i p values fuel at h
