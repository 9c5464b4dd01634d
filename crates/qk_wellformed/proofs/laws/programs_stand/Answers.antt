use Rattle.qk_wellformed.proofs.ProgramsStand.{program_stands, program_given, one_program, faultless, no_fault}
use Rattle.qk_wellformed.proofs.laws.programs_stand.Goals as goal

pub returns : goal.returns
returns c = record { judged = program_given; stands = program_stands; one = one_program; faultless = faultless; faulty = no_fault }
