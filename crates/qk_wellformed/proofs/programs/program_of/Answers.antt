use Rattle.qk_syntax.specs.View.{views}
use Rattle.qk_wellformed.proofs.ProgramsStand.{found_stands, none_stands}
use Rattle.qk_wellformed.proofs.programs.program_of.Goals as goal

pub returns-clause-program : goal.returns-clause-program
returns-clause-program c = found_stands (views c.args.trees.now.items) c.elaborate.result c.elaborate.ensures.program

pub returns-clause-none : goal.returns-clause-none
returns-clause-none c = none_stands (views c.args.trees.now.items) c.elaborate.result c.elaborate.ensures.refused
