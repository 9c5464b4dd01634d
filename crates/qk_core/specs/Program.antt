-- A checked program as plain data.
use Rattle.std.specs.Prelude.{List}
use base.Stored.{Coded, coded×, coded_list, coded_via}
use Rattle.qk_value.specs.Kinds.{KindData, kind_code}
use Rattle.qk_core.specs.Definitions.{FunctionData, function_code, UserGenData, user_gen_code, ModelData, model_code}
use Rattle.qk_core.specs.Properties.{PropertyData, property_code}

pub record ProgramData : Type 0 where
  pub kinds : List KindData
  pub functions : List FunctionData
  pub generators : List UserGenData
  pub models : List ModelData
  pub properties : List PropertyData

abbrev pub program_code : Coded ProgramData
program_code =
    coded_via (coded× (coded_list kind_code) (coded× (coded× (coded_list function_code) (coded_list user_gen_code)) (coded× (coded_list model_code) (coded_list property_code))))
    (λ c. (c.kinds, ((c.functions, c.generators), (c.models, c.properties))))
    (λ a b e i. record { kinds = (e i).0; functions = (e i).1.0.0; generators = (e i).1.0.1; models = (e i).1.1.0; properties = (e i).1.1.1 })
