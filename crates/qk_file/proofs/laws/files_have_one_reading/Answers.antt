use Rattle.qk_file.proofs.FileLaws.{faults_are_one, never_both, program_or_fault, programs_are_one}
use Rattle.qk_file.proofs.laws.files_have_one_reading.Goals as goal

pub returns : goal.returns
returns c = record { read = program_or_fault; apart = never_both; program = programs_are_one; fault = faults_are_one }
