-- The replay token: by it an attempt is drawn again and its steps of shrinking are followed.
use Rattle.std.specs.Prelude.{ℕ, List, [], ◌∷◌, ◌++◌, codes, decimal}

-- each number behind a dot
abbrev pub dotted : List ℕ → List ℕ
dotted [] = []
dotted (n ∷ ns) = codes "." ++ decimal n ++ dotted ns

-- the numbers of candidates from a failing value on, with a dot between two; `-` where there are none
abbrev pub path_text : List ℕ → List ℕ
path_text [] = codes "-"
path_text (n ∷ ns) = decimal n ++ dotted ns

pub record TokenData : Type 0 where
  pub property : ℕ
  pub seed : ℕ
  pub attempt : ℕ
  pub size : ℕ
  pub fuel : ℕ
  pub path : List ℕ

abbrev pub token_text : TokenData → List ℕ
token_text t =
    codes "q1:" ++ decimal t.property ++ codes ":" ++ decimal t.seed ++ codes ":" ++ decimal t.attempt ++ codes ":" ++ decimal t.size ++ codes ":" ++ decimal t.fuel ++ codes ":" ++ path_text t.path
