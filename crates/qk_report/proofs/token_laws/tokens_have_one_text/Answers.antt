use Rattle.std.proofs.Common.{refl}
use Rattle.qk_report.specs.Token.{token_text}
use Rattle.qk_report.proofs.TokenReading.{one_token}
use Rattle.qk_report.proofs.token_laws.tokens_have_one_text.Goals as goal

pub returns : goal.returns
returns c = record { word = one_token; text = λ t u a b e. one_token (token_text t) t u (a, refl) (b, e) }
