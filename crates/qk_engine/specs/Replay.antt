-- The answer to a replay token.
use Rattle.std.specs.Prelude.{◌≡◌, ℕ, false, List, Option, Some, None, slice_get, unwrap_or, codes}
use Rattle.std.specs.Option.{is_some}
use Rattle.qk_base.specs.declared.outcome.Cause.TheVariants.{False}
use Rattle.qk_base.specs.declared.status.Status.{Status}
use Rattle.qk_base.specs.declared.status.Status.TheVariants as status
use Rattle.qk_command.specs.Drawing.{DrawnValues}
use Rattle.qk_core.specs.Program.{ProgramData}
use Rattle.qk_core.specs.Properties.{PropertyData}
use Rattle.qk_property.specs.Points.{cause_at}
use Rattle.qk_property.specs.Replayed.{replayed}
use Rattle.qk_report.specs.Block.{FailureData, replayed_block}
use Rattle.qk_report.specs.Lines.{line}
use Rattle.qk_report.specs.Token.{TokenData}

-- a word that is no token, or a token whose attempt or path does not fail in the file
abbrev pub bad_token : List ℕ
bad_token = line (codes "refused 40")

-- a token of a property that the file does not have
abbrev pub no_property : List ℕ
no_property = line (codes "refused 41")

-- what is told of the values that the token leads to
abbrev pub replayed_failure : ProgramData → PropertyData → TokenData → DrawnValues → FailureData
replayed_failure c p t point = record {
  attempt = t.attempt;
  size = t.size;
  cause = unwrap_or (cause_at c p t.fuel point) False;
  drawing = is_some point.crash;
  values = point.values;
  path = t.path;
  tried = None;
  limit_met = false;
  seed = t.seed;
  fuel = t.fuel;
}

abbrev pub point_of : ProgramData → PropertyData → TokenData → Option DrawnValues
point_of c p t = replayed c p t.seed t.fuel t.attempt t.size t.path

-- the program has the token's property, and the token's attempt and each step of its path fail
abbrev pub LeadsToFailure : TokenData → ProgramData → Type 0
LeadsToFailure t c = (p : PropertyData) × (point : DrawnValues) × (slice_get c.properties t.property ≡ Some p) × (point_of c p t ≡ Some point)

abbrev pub point_reply : ProgramData → PropertyData → TokenData → Option DrawnValues → Status → List ℕ → Type 0
point_reply c p t None s text = (s ≡ status.Usage) × (text ≡ bad_token)
point_reply c p t (Some point) s text = (s ≡ status.SomeFailed) × (text ≡ replayed_block c.kinds t.property p (replayed_failure c p t point))

abbrev pub property_reply : ProgramData → TokenData → Option PropertyData → Status → List ℕ → Type 0
property_reply c t None s text = (s ≡ status.Usage) × (text ≡ no_property)
property_reply c t (Some p) s text = point_reply c p t (point_of c p t) s text

-- the values that the token leads to in a program, or its refusal
abbrev pub TokenReply : TokenData → ProgramData → Status → List ℕ → Type 0
TokenReply t c s text = property_reply c t (slice_get c.properties t.property) s text
