-- What a program defines, as plain data: functions, generators and models.
use Rattle.std.specs.Prelude.{ℕ, List}
use base.Stored.{Coded, coded×, coded_list, coded_ℕ, coded_via}
use Rattle.qk_value.specs.Code.{type_code}
use Rattle.qk_value.specs.Types.{TypeData}
use Rattle.qk_core.specs.ExprCode.{expr_code}
use Rattle.qk_core.specs.ExprData.{ExprData}
use Rattle.qk_core.specs.GenCode.{gen_code}
use Rattle.qk_core.specs.GenData.{GenData}

pub record FunctionData : Type 0 where
  pub params : List TypeData
  pub result : TypeData
  pub body : ExprData

pub record UserGenData : Type 0 where
  pub params : List TypeData
  pub result : TypeData
  pub body : GenData

pub record ModelData : Type 0 where
  pub command : TypeData
  pub maker : ℕ
  pub abstract_ty : TypeData
  pub init : ExprData
  pub pre : ℕ
  pub next : ℕ
  pub system_ty : TypeData
  pub start : ExprData
  pub step : ℕ
  pub post : ℕ

abbrev pub types_code : Coded (List TypeData)
types_code = coded_list type_code

abbrev pub function_code : Coded FunctionData
function_code = coded_via (coded× types_code (coded× type_code expr_code)) (λ f. (f.params, (f.result, f.body))) (λ a b e i. record { params = (e i).0; result = (e i).1.0; body = (e i).1.1 })

abbrev pub user_gen_code : Coded UserGenData
user_gen_code = coded_via (coded× types_code (coded× type_code gen_code)) (λ g. (g.params, (g.result, g.body))) (λ a b e i. record { params = (e i).0; result = (e i).1.0; body = (e i).1.1 })

abbrev pub model_code : Coded ModelData
model_code =
    coded_via (coded× (coded× (coded× type_code coded_ℕ) (coded× type_code expr_code)) (coded× (coded× (coded× coded_ℕ coded_ℕ) (coded× type_code expr_code)) (coded× coded_ℕ coded_ℕ)))
    (λ m. (((m.command, m.maker), (m.abstract_ty, m.init)), (((m.pre, m.next), (m.system_ty, m.start)), (m.step, m.post))))
    (λ a b e i. record { command = (e i).0.0.0; maker = (e i).0.0.1; abstract_ty = (e i).0.1.0; init = (e i).0.1.1; pre = (e i).1.0.0.0; next = (e i).1.0.0.1; system_ty = (e i).1.0.1.0; start = (e i).1.0.1.1; step = (e i).1.1.0; post = (e i).1.1.1 })
