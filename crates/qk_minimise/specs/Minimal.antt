-- What contracts see of a minimum.
use Rattle.std.specs.Prelude.{ℕ, Bool, Option, Some, List, refl}
use Rattle.std.specs.Coded.{Coded, code_by, coded×, coded_ℕ, coded_bool, coded_list, coded_option}
use Rattle.qk_minimise.specs.Descent.{Descended}

-- the point, the path as a plain list, how many candidates were tried, if that is told, and whether the limit was met
pub record Minimal (P : Type 0) : Type 0 where
  pub point : P
  pub path : List ℕ
  pub tried : Option ℕ
  pub limit_met : Bool

-- it is stored as its fields
abbrev pub minimal_code : {P : Type 0} → Coded P → Coded (Minimal P)
minimal_code {P = P} c =
    code_by (P × (List ℕ × (Option ℕ × Bool))) (coded× c (coded× (coded_list coded_ℕ) (coded× (coded_option coded_ℕ) coded_bool)))
    (λ m. (m.point, (m.path, (m.tried, m.limit_met)))) (λ p. record { point = p.0; path = p.1.0; tried = p.1.1.0; limit_met = p.1.1.1 }) (λ _. refl)

-- where a descent ends, as a minimum
abbrev pub minimal_of : {P : Type 0} → Descended P → Minimal P
minimal_of d = record { point = d.point; path = d.path; tried = Some d.tried; limit_met = d.limit_met }
