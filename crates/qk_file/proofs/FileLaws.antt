-- What holds of a property file, and of the answers to it.
use Rattle.std.proofs.Common.{◌≡◌, ◌⊎◌, ◌∙◌, ℕ, ◌<◌, List, Option, Some, None, take, length, arith, refl, sym, ap, subst, inl, inr}
use Rattle.std.proofs.lemmas.Bool.{cases_lt, lt-ltb}
use Rattle.std.proofs.lemmas.List.{take_all, length-take-le}
use Rattle.qk_base.specs.declared.place.Refusal.{Refusal}
use Rattle.qk_base.specs.declared.status.Status.{Status}
use Rattle.qk_base.specs.declared.status.Status.TheVariants as status
use Rattle.qk_core.specs.Program.{ProgramData}
use Rattle.qk_syntax.specs.Places.{start}
use Rattle.qk_syntax.specs.PlainTrees.{PlainTrees}
use Rattle.qk_syntax.specs.Spelling.{Spells}
use Rattle.qk_syntax.specs.TextFault.{text_fault, fault}
use Rattle.qk_syntax.proofs.TextRead.{faultless_is_spelled, one_spelling, spelled_has_no_fault}
use Rattle.qk_types.specs.Elaboration.{type_fault}
use Rattle.qk_wellformed.specs.StandsFor.{StandsFor}
use Rattle.qk_wellformed.proofs.ProgramsStand.{faultless, no_fault, one_program}
use Rattle.qk_file.specs.Files.{IsFault, IsProgram, FileReply, IsReply, IsRun, refusal}
use Rattle.qk_file.specs.Laws.{NeverBoth, ProgramOrFault}

-- a file that is too long has that fault, whatever its bytes are
long_is_refused : (bytes : List ℕ) → 1048576 < length bytes → text_fault bytes ≡ Some (fault 1 start)
long_is_refused bytes long = rw (lt-ltb 1048576 (length bytes) long) refl

pub program_is_short : (bytes : List ℕ) (c : ProgramData) → IsProgram bytes c → length bytes < 1048577
program_is_short bytes c program = let short = program.1.short in omega (arith, short)

-- the fault of the front of a long file is that of the file
long_fault : (bytes : List ℕ) (r : Refusal) → 1048576 < length bytes → length (take 1048577 bytes) ≡ 1048577 → IsFault (take 1048577 bytes) r → IsFault bytes r
long_fault bytes r long front said = elim said as (λ _. IsFault bytes r) [
  | inl e ↦ inl (long_is_refused bytes long ∙ sym (long_is_refused (take 1048577 bytes) (omega (arith, front))) ∙ e)
  | inr trees ↦ let short = trees.1.short in absurd (omega (arith, short, front))
]

pub program_has_no_fault : (bytes : List ℕ) (c : ProgramData) → IsProgram bytes c → (r : Refusal) → IsFault bytes r → ⊥
program_has_no_fault bytes c program r said = elim said as (λ _. ⊥) [
  | inl e ↦ let both = sym (spelled_has_no_fault bytes program.0 program.1) ∙ e in cc
  | inr trees ↦
      let same : trees.0 ≡ program.0 = one_spelling bytes trees.0 program.0 trees.1 program.1 in
      let both = sym (ap type_fault same ∙ no_fault program.0 c program.2) ∙ trees.2 in cc
]

pub programs_are_one : (bytes : List ℕ) (c d : ProgramData) → IsProgram bytes c → IsProgram bytes d → c ≡ d
programs_are_one bytes c d one other =
    let same : one.0 ≡ other.0 = one_spelling bytes one.0 other.0 one.1 other.1 in
    one_program other.0 c d (subst (λ (ts : PlainTrees). StandsFor ts c) same one.2) other.2

module _ (answers : ProgramData → Status → List ℕ → Type 0) where
  -- what is said of the front that was loaded holds of the whole file
  pub front_says : (bytes : List ℕ) (s : Status) (text : List ℕ) → FileReply answers (take 1048577 bytes) s text → FileReply answers bytes s text
  front_says bytes s text said = elim (cases_lt (length bytes) 1048577) as (λ _. FileReply answers bytes s text) [
    | inl less ↦ subst (λ (b : List ℕ). FileReply answers b s text) (take_all 1048577 bytes (omega (arith, less))) said
    | inr long ↦
        let front : length (take 1048577 bytes) ≡ 1048577 = length-take-le 1048577 bytes long in
        elim said as (λ _. FileReply answers bytes s text) [
          | inl refused ↦ inl (refused.0, long_fault bytes refused.0 (omega (arith, long)) front refused.1, refused.2)
          | inr program ↦ let short = program_is_short (take 1048577 bytes) program.0 program.1 in absurd (omega (arith, short, front))
        ]
  ]

  -- a reply that tells of a run is that to a program
  pub run_is_of_program : (bytes : List ℕ) (s : Status) (text : List ℕ) → IsRun s → FileReply answers bytes s text → length bytes < 1048577
  run_is_of_program bytes s text run said = elim said as (λ _. length bytes < 1048577) [
    | inl refused ↦ elim run as (λ _. length bytes < 1048577) [ inl e ↦ let both = sym e ∙ refused.2.0 in cc | inr e ↦ let both = sym e ∙ refused.2.0 in cc ]
    | inr program ↦ program_is_short bytes program.0 program.1
  ]

  -- the reply to the bytes of a program is that to the program: they have no fault, and no other program
  pub program_is_answered : (bytes : List ℕ) (s : Status) (text : List ℕ) (c : ProgramData) → IsProgram bytes c → FileReply answers bytes s text → answers c s text
  program_is_answered bytes s text c program said = elim said as (λ _. answers c s text) [
    | inl refused ↦ absurd (program_has_no_fault bytes c program refused.0 refused.1)
    | inr other ↦ subst (λ (d : ProgramData). answers d s text) (programs_are_one bytes other.0 c other.1 program) other.2
  ]

pub run_is_reply : (s : Status) → IsRun s → IsReply s
run_is_reply s run = elim run as (λ _. IsReply s) [ inl e ↦ subst IsReply (sym e) tt | inr e ↦ subst IsReply (sym e) tt ]

-- two answers are the same
abbrev pub Same : Status → List ℕ → Status → List ℕ → Type 0
Same s text t other = (s ≡ t) × (text ≡ other)

-- replies of a kind are one
abbrev pub IsOne : (Status → List ℕ → Type 0) → Type 0
IsOne answers = (s : Status) (text : List ℕ) (t : Status) (other : List ℕ) → answers s text → answers t other → Same s text t other

-- a file has one fault at most
pub faults_are_one : (bytes : List ℕ) (r q : Refusal) → IsFault bytes r → IsFault bytes q → r ≡ q
faults_are_one bytes r q (inl e) (inl f) = let both = sym e ∙ f in cc
faults_are_one bytes r q (inl e) (inr trees) = let both = sym (spelled_has_no_fault bytes trees.0 trees.1) ∙ e in absurd (cc)
faults_are_one bytes r q (inr trees) (inl f) = let both = sym (spelled_has_no_fault bytes trees.0 trees.1) ∙ f in absurd (cc)
faults_are_one bytes r q (inr trees) (inr others) =
    let same : trees.0 ≡ others.0 = one_spelling bytes trees.0 others.0 trees.1 others.1 in
    let both = sym trees.2 ∙ (ap type_fault same ∙ others.2) in cc

pub one_file : (answers : ProgramData → Status → List ℕ → Type 0) (bytes : List ℕ) → ((c : ProgramData) → IsOne (answers c)) → IsOne (FileReply answers bytes)
one_file answers bytes one s text u other (inl (r, fault, (e, is))) (inl (q, same, (f, js))) = (e ∙ sym f, is ∙ (ap refusal (faults_are_one bytes r q fault same) ∙ sym js))
one_file answers bytes one s text u other (inl (r, fault, refuses)) (inr (c, program, said)) = absurd (program_has_no_fault bytes c program r fault)
one_file answers bytes one s text u other (inr (c, program, said)) (inl (r, fault, refuses)) = absurd (program_has_no_fault bytes c program r fault)
one_file answers bytes one s text u other (inr (c, program, a)) (inr (d, same, b)) =
    one d s text u other (subst (λ (x : ProgramData). answers x s text) (programs_are_one bytes c d program same) a) b

-- there are answers of a kind
abbrev pub Some_of : (Status → List ℕ → Type 0) → Type 0
Some_of answers = (s : Status) × (text : List ℕ) × answers s text

some_of_trees : (answers : ProgramData → Status → List ℕ → Type 0) (bytes : List ℕ) (trees : PlainTrees) → Spells bytes trees → ((c : ProgramData) → Some_of (answers c)) → (o : Option Refusal) → type_fault trees ≡ o → Some_of (FileReply answers bytes)
some_of_trees answers bytes trees spells each (Some r) e = (status.Refused, refusal r, inl (r, inr (trees, spells, e), (refl, refl)))
some_of_trees answers bytes trees spells each None e =
    let program = faultless trees e in
    let said = each program.0 in
    (said.0, said.1, inr (program.0, (trees, spells, program.1), said.2))

some_by : (answers : ProgramData → Status → List ℕ → Type 0) (bytes : List ℕ) → ((c : ProgramData) → Some_of (answers c)) → (o : Option Refusal) → text_fault bytes ≡ o → Some_of (FileReply answers bytes)
some_by answers bytes each (Some r) e = (status.Refused, refusal r, inl (r, inl e, (refl, refl)))
some_by answers bytes each None e = let trees = faultless_is_spelled bytes e in some_of_trees answers bytes trees.0 trees.1 each (type_fault trees.0) refl

pub some_of_file : (answers : ProgramData → Status → List ℕ → Type 0) (bytes : List ℕ) → ((c : ProgramData) → Some_of (answers c)) → Some_of (FileReply answers bytes)
some_of_file answers bytes each = some_by answers bytes each (text_fault bytes) refl

-- a file is of a program, or has a fault
program_or_fault_of : (bytes : List ℕ) (trees : PlainTrees) → Spells bytes trees → (o : Option Refusal) → type_fault trees ≡ o → ((c : ProgramData) × IsProgram bytes c) ⊎ ((r : Refusal) × IsFault bytes r)
program_or_fault_of bytes trees spells (Some r) e = inr (r, inr (trees, spells, e))
program_or_fault_of bytes trees spells None e = let program = faultless trees e in inl (program.0, (trees, spells, program.1))

program_or_fault_by : (bytes : List ℕ) (o : Option Refusal) → text_fault bytes ≡ o → ((c : ProgramData) × IsProgram bytes c) ⊎ ((r : Refusal) × IsFault bytes r)
program_or_fault_by bytes (Some r) e = inr (r, inl e)
program_or_fault_by bytes None e = let trees = faultless_is_spelled bytes e in program_or_fault_of bytes trees.0 trees.1 (type_fault trees.0) refl

pub program_or_fault : ProgramOrFault
program_or_fault bytes = program_or_fault_by bytes (text_fault bytes) refl

pub never_both : NeverBoth
never_both bytes c r program said = program_has_no_fault bytes c program r said
