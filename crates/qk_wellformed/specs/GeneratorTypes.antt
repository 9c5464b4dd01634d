-- The types of the parts of each generator, and of what it draws.
use Rattle.std.specs.Prelude.{◌≡◌, List, [], ◌∷◌}
use Rattle.qk_value.specs.Types.{TypeData, int_type, list_type, pair_type, made_type}
use Rattle.qk_core.specs.ExprData.{ExprData}
use Rattle.qk_core.specs.GenData.{GenData, gens_of}
use Rattle.qk_generators.specs.Drawing.{OfValues, choose, elements, pure, call, OfDraws, list, pair, one_of, made, Sized, vector, resize, generator_of}
use Rattle.qk_headers.specs.Headers.{HeadersData}
use Rattle.qk_typing.specs.Operators.{fields_of}
use Rattle.qk_headers.specs.Scopes.{types_of}

abbrev pub AllAre : TypeData → List TypeData → Type 0
AllAre t [] = Unit {0}
AllAre t (u ∷ us) = (u ≡ t) × AllAre t us

-- whose parts are expressions
abbrev pub ValuesTypes : HeadersData → OfValues → List TypeData → TypeData → Type 0
ValuesTypes h choose (a ∷ b ∷ []) t = (a ≡ int_type) × (b ≡ int_type) × (t ≡ int_type)
ValuesTypes h elements (a ∷ ts) t = AllAre t (a ∷ ts)
ValuesTypes h pure (a ∷ []) t = t ≡ a
ValuesTypes h (call g) ts t = (ts ≡ types_of (generator_of h g).params) × (t ≡ (generator_of h g).result)
ValuesTypes h f ts t = ⊥

-- .. generators
abbrev pub DrawsTypes : HeadersData → OfDraws → List TypeData → TypeData → Type 0
DrawsTypes h list (a ∷ []) t = t ≡ list_type a
DrawsTypes h pair (a ∷ b ∷ []) t = t ≡ pair_type a b
DrawsTypes h one_of (a ∷ ts) t = AllAre t (a ∷ ts)
DrawsTypes h (made k m) ts t = (ts ≡ fields_of h k m) × (t ≡ made_type k)
DrawsTypes h f ts t = ⊥

-- .. a number and a generator
abbrev pub SizedTypes : Sized → TypeData → TypeData → Type 0
SizedTypes vector a t = t ≡ list_type a
SizedTypes resize a t = t ≡ a

abbrev pub IsOfValues : OfValues → List ExprData → GenData → Type 0
IsOfValues choose (a ∷ b ∷ []) g = g ≡ GenData.choose a b
IsOfValues elements es g = g ≡ GenData.elements es
IsOfValues pure (e ∷ []) g = g ≡ GenData.pure e
IsOfValues (call i) es g = g ≡ GenData.call i es
IsOfValues f es g = ⊥

abbrev pub IsOfDraws : OfDraws → List GenData → GenData → Type 0
IsOfDraws list (f ∷ []) g = g ≡ GenData.list f
IsOfDraws pair (e ∷ f ∷ []) g = g ≡ GenData.pair e f
IsOfDraws one_of fs g = g ≡ GenData.one_of (gens_of fs)
IsOfDraws (made k m) fs g = g ≡ GenData.making k m (gens_of fs)
IsOfDraws what fs g = ⊥

abbrev pub IsSizedBy : Sized → ExprData → GenData → GenData → Type 0
IsSizedBy vector e f g = g ≡ GenData.vector e f
IsSizedBy resize e f g = g ≡ GenData.resize e f
