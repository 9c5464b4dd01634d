-- Trees are judged to be a program exactly where they stand for it.
use Rattle.std.specs.Prelude.{Result, IfOk, IfErr}
use Rattle.std.specs.Result.{result_err}
use Rattle.std.proofs.Common.{◌≡◌, ◌∙◌, List, refl, sym, ap, None, Ok, Err}
use Rattle.qk_base.specs.declared.fault.Fault.{Fault}
use Rattle.qk_base.specs.declared.fault.Fault.TheVariants as faults
use Rattle.qk_base.specs.declared.place.Refusal.{Refusal}
use Rattle.qk_core.specs.Program.{ProgramData}
use Rattle.qk_syntax.specs.PlainTrees.{PlainTrees}
use Rattle.qk_syntax.specs.Refusals.{IfRefusal}
use Rattle.qk_types.specs.Bodies.{bodies_of}
use Rattle.qk_names.specs.Checks.{Checked, ◌>>=◌}
use Rattle.qk_types.specs.Elaboration.{elaborated, type_fault}
use Rattle.qk_headers.specs.Headers.{HeadersData, no_headers, headers_of}
use Rattle.qk_names.specs.Names.{Declared, names_of}
use Rattle.qk_typing.specs.Operators.{Tables}
use Rattle.qk_wellformed.specs.StandsFor.{no_bodies, StandsFor}
use Rattle.qk_wellformed.proofs.BodiesStand.{bodies_stand, bodies_given}
use Rattle.qk_wellformed.proofs.HeadersStand.{headers_stand, headers_given}
use Rattle.qk_wellformed.proofs.Inversion.{ok_is, bound, after}
use Rattle.qk_wellformed.proofs.NamesStand.{names_stand, names_given}

abbrev tables : List Declared → HeadersData → Tables
tables names headers = record { names = names; headers = headers }

pub program_stands : (trees : PlainTrees) (core : ProgramData) → elaborated trees ≡ Ok core → StandsFor trees core
program_stands trees core h =
    bound (names_of trees) (λ names. headers_of names trees >>= λ headers. bodies_of (tables names headers) trees) core _
    (λ names e k. bound (headers_of names trees) (λ headers. bodies_of (tables names headers) trees) core _
    (λ headers f l. record {
      names = names;
      headers = headers;
      declared = names_stand trees names e;
      headed = headers_stand names trees no_headers headers f;
      bodies = bodies_stand (tables names headers) trees (no_bodies headers) core l;
    }) k) h

pub program_given : (trees : PlainTrees) (core : ProgramData) → StandsFor trees core → elaborated trees ≡ Ok core
program_given trees core h =
    after (names_of trees) (λ names. headers_of names trees >>= λ headers. bodies_of (tables names headers) trees) h.names _ (names_given trees h.names h.declared)
    (after (headers_of h.names trees) (λ headers. bodies_of (tables h.names headers) trees) h.headers _ (headers_given h.names trees no_headers h.headers h.headed)
    (bodies_given (tables h.names h.headers) trees (no_bodies h.headers) core h.bodies))

pub one_program : (trees : PlainTrees) (core other : ProgramData) → StandsFor trees core → StandsFor trees other → core ≡ other
one_program trees core other h k = ok_is core other (elaborated trees) (program_given trees core h) (program_given trees other k)

some_program : (e : Checked ProgramData) → result_err e ≡ None → (core : ProgramData) × (e ≡ Ok core)
some_program (Ok core) h = (core, refl)
some_program (Err r) h = absurd (cc)

pub faultless : (trees : PlainTrees) → type_fault trees ≡ None → (core : ProgramData) × StandsFor trees core
faultless trees h = let found : (core : ProgramData) × (elaborated trees ≡ Ok core) = some_program (elaborated trees) h in (found.0, program_stands trees found.0 found.1)

pub no_fault : (trees : PlainTrees) (core : ProgramData) → StandsFor trees core → type_fault trees ≡ None
no_fault trees core h = ap result_err (program_given trees core h)

pub refused : (trees : PlainTrees) (r : Refusal) → elaborated trees ≡ Err r → (core : ProgramData) → StandsFor trees core → ⊥
refused trees r h core k = let both : Err r ≡ Ok core = sym h ∙ program_given trees core k in absurd (cc)

-- what is known of a program that was found, and where none was
pub found_stands : (trees : PlainTrees) (r : Result ProgramData Fault) → IfOk r (λ core. elaborated trees ≡ Ok core) → IfOk r (λ core. StandsFor trees core)
found_stands trees (Ok core) h = program_stands trees core h
found_stands trees (Err e) h = tt

pub none_stands : (trees : PlainTrees) (r : Result ProgramData Fault) → IfErr r (λ e. IfRefusal e (λ x. elaborated trees ≡ Err x)) → IfErr r (λ e. IfRefusal e (λ x. (core : ProgramData) → StandsFor trees core → ⊥))
none_stands trees (Ok core) h = tt
none_stands trees (Err faults.Memory) h = tt
none_stands trees (Err (faults.Refused x)) h = λ core k. refused trees x h core k
