-- A list as a generator, by its head and the parts after it; and the parts of a frequency.
use Rattle.std.proofs.Common.{◌≡◌, ◌∙◌, ℕ, ◌+◌, ◌≤◌, ◌<◌, List, [], ◌∷◌, ◌++◌, map, length, get_or, drop, refl, sym, ap, arith, Ok, Err}
use Rattle.std.proofs.lemmas.List.{at_drop_more}
use Rattle.qk_base.specs.declared.place.Place.{Place}
use Rattle.qk_syntax.specs.PlainTrees.{PlainTree, number, name, list, PlainTrees, end, more}
use Rattle.qk_syntax.specs.View.{view, views}
use Rattle.qk_syntax.specs.declared.tree.Tree.{Tree}
use Rattle.qk_names.specs.Checks.{Checked, ◌>>=◌, refuse}
use Rattle.qk_generators.specs.Drawing.{GenForm, values, draws, sized, frequency, bind, Sized, Part}
use Rattle.qk_generators.specs.GenHeads.{gen_head_form}
use Rattle.qk_generators.specs.GenSteps.{formed_gen, weight_of, part_at}
use Rattle.qk_generators.specs.Generators.{generator, sized_at, bind_at, parts_at}
use Rattle.qk_typing.specs.Operators.{Tables}
use Rattle.qk_headers.specs.Scopes.{Scope}
use Rattle.qk_headers.specs.TypesOf.{parts_after}
use Rattle.qk_names.proofs.Sequencing.{after_ok}

module _ (d : Tables) (s : Scope) (p : Place) (ts : PlainTrees) where
  by_form : (t : PlainTree) (form : GenForm) → gen_head_form d.names p t ≡ Ok form → generator d s (list p (more t ts)) ≡ formed_gen d s p ts form
  by_form (name q w) (values f) h = after_ok _ _ _ _ h refl
  by_form (name q w) (draws f) h = after_ok _ _ _ _ h refl
  by_form (name q w) (sized f) h = after_ok _ _ _ _ h refl
  by_form (name q w) frequency h = after_ok _ _ _ _ h refl
  by_form (name q w) bind h = after_ok _ _ _ _ h refl
  by_form (number q n) form h = cc
  by_form (list q us) form h = cc

module _ (d : Tables) (s : Scope) (p : Place) where
  -- .. by the head of a list of trees
  pub of_gen_form : (ts : List Tree) (x : Tree) (form : GenForm) → 1 ≤ length ts → x ≡ get_or ts 0 x → gen_head_form d.names p (view x) ≡ Ok form
      → generator d s (list p (views ts)) ≡ formed_gen d s p (parts_after (views ts)) form
  of_gen_form [] x form most is h = absurd (omega arith)
  of_gen_form (a ∷ ts) x form most is h = by_form d s p (views ts) (view a) form (ap (λ t. gen_head_form d.names p (view t)) (sym is) ∙ h)

  pub sized_few : (f : Sized) (ts : List Tree) → length ts < 3 → sized_at d s p f (parts_after (views ts)) ≡ refuse 23 p
  sized_few f [] h = refl
  sized_few f (a ∷ []) h = refl
  sized_few f (a ∷ b ∷ []) h = refl
  sized_few f (a ∷ b ∷ c ∷ ts) h = absurd (omega arith)

  pub sized_many : (f : Sized) (ts : List Tree) → 4 ≤ length ts → sized_at d s p f (parts_after (views ts)) ≡ refuse 23 p
  sized_many f [] h = absurd (omega arith)
  sized_many f (a ∷ []) h = absurd (omega arith)
  sized_many f (a ∷ b ∷ []) h = absurd (omega arith)
  sized_many f (a ∷ b ∷ c ∷ []) h = absurd (omega arith)
  sized_many f (a ∷ b ∷ c ∷ e ∷ ts) h = refl

  pub bind_few : (ts : List Tree) → length ts < 4 → bind_at d s p (parts_after (views ts)) ≡ refuse 23 p
  bind_few [] h = refl
  bind_few (a ∷ []) h = refl
  bind_few (a ∷ b ∷ []) h = refl
  bind_few (a ∷ b ∷ c ∷ []) h = refl
  bind_few (a ∷ b ∷ c ∷ e ∷ ts) h = absurd (omega arith)

  pub bind_many : (ts : List Tree) → 5 ≤ length ts → bind_at d s p (parts_after (views ts)) ≡ refuse 23 p
  bind_many [] h = absurd (omega arith)
  bind_many (a ∷ []) h = absurd (omega arith)
  bind_many (a ∷ b ∷ []) h = absurd (omega arith)
  bind_many (a ∷ b ∷ c ∷ []) h = absurd (omega arith)
  bind_many (a ∷ b ∷ c ∷ e ∷ []) h = absurd (omega arith)
  bind_many (a ∷ b ∷ c ∷ e ∷ f ∷ ts) h = refl

  pub part_few : (ts : List Tree) → length ts < 2 → part_at d s (list p (views ts)) ≡ refuse 23 p
  part_few [] h = refl
  part_few (a ∷ []) h = refl
  part_few (a ∷ b ∷ ts) h = absurd (omega arith)

  pub part_many : (ts : List Tree) → 3 ≤ length ts → part_at d s (list p (views ts)) ≡ refuse 23 p
  part_many [] h = absurd (omega arith)
  part_many (a ∷ []) h = absurd (omega arith)
  part_many (a ∷ b ∷ []) h = absurd (omega arith)
  part_many (a ∷ b ∷ c ∷ ts) h = refl

-- a weight and a generator are judged before what comes after them
module _ {A B C D : Type 0} (made : A → B → C) (next : C → Checked D) where
  bodied : (n : A) (e : Checked B) → ((e >>= λ g. Ok (made n g)) >>= next) ≡ (e >>= λ g. next (made n g))
  bodied n (Ok g) = refl
  bodied n (Err r) = refl

  weighed : (w : Checked A) (e : Checked B) → ((w >>= λ n. (e >>= λ g. Ok (made n g))) >>= next) ≡ (w >>= λ n. (e >>= λ g. next (made n g)))
  weighed (Ok n) e = bodied n e
  weighed (Err r) e = refl

module _ (d : Tables) (s : Scope) (before : List Part) (ts : PlainTrees) where
  step : (t : PlainTree) → (part_at d s t >>= λ part. parts_at d s (before ++ part ∷ []) ts) ≡ parts_at d s before (more t ts)
  step (number p n) = refl
  step (name p w) = refl
  step (list p end) = refl
  step (list p (more (number q n) end)) = refl
  step (list p (more (name q w) end)) = refl
  step (list p (more (list q us) end)) = refl
  step (list p (more (number q n) (more g end))) =
      weighed (λ n g. record { weight = n; body = g }) (λ part. parts_at d s (before ++ part ∷ []) ts) (weight_of (number q n)) (generator d s g)
  step (list p (more (name q w) (more g end))) = refl
  step (list p (more (list q us) (more g end))) = refl
  step (list p (more (number q n) (more g (more h us)))) = refl
  step (list p (more (name q w) (more g (more h us)))) = refl
  step (list p (more (list q vs) (more g (more h us)))) = refl

module _ (d : Tables) (s : Scope) (before : List Part) (trees : List Tree) (i : ℕ) (x : Tree) (lt : i < length trees) (is : x ≡ get_or trees i x) where
  -- a part and then the others
  pub next_part : (all : Checked (List Part)) → all ≡ parts_at d s before (views (drop i trees))
      → all ≡ (part_at d s (view x) >>= λ part. parts_at d s (before ++ part ∷ []) (views (drop (i + 1) trees)))
  next_part all so =
      so ∙ at_drop_more (λ ts. parts_at d s before (views ts)) trees i x lt ∙ ap (λ y. parts_at d s before (views (y ∷ drop (i + 1) trees))) (sym is)
      ∙ sym (step d s before (views (drop (i + 1) trees)) (view x))

mapped_end : {A B : Type 0} (f : A → B) (xs : List A) (x : A) → map f xs ++ f x ∷ [] ≡ map f (xs ++ x ∷ [])
mapped_end f [] x = refl
mapped_end f (y ∷ xs) x = ap (λ zs. f y ∷ zs) (mapped_end f xs x)

-- one more item is one more of what the items stand for
pub mapped : {A B : Type 0} (f : A → B) (xs : List A) (x : A) (ys : List A) → ys ≡ xs ++ x ∷ [] → map f xs ++ f x ∷ [] ≡ map f ys
mapped f xs x ys same = mapped_end f xs x ∙ ap (map f) (sym same)
