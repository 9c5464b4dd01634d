-- Which words are tokens.
use Rattle.std.specs.Prelude.{◌≡◌, ℕ, ◌≤◌, ◌<◌, ◌^◌, List, length, All}
use Rattle.qk_report.specs.Token.{TokenData, token_text}

-- the fields of a token are in range
pub record IsTokenInRange (t : TokenData) : Type 0 where
  pub property : t.property ≤ 999
  pub seed : t.seed < 2 ^ 64
  pub attempt : t.attempt ≤ 100999999
  pub size : t.size ≤ 1000
  pub fuel : (1 ≤ t.fuel) × (t.fuel ≤ 1000000)
  pub steps : length t.path ≤ 1024
  pub numbers : All (λ n. n < 2 ^ 64) t.path

-- the word is the text of that token, whose fields are in range
abbrev pub IsTokenOf : List ℕ → TokenData → Type 0
IsTokenOf word t = IsTokenInRange t × (word ≡ token_text t)
