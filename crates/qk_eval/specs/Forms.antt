-- What the form of a shared value and the items of a list stand for.
use Rattle.std.specs.Prelude.{Option, Some, None}
use denote.Ref.{Bor}
use Rattle.qk_value.specs.Data.{Data, int, bool, list, pair, made, Datas, end, more, datas_of}
use Rattle.qk_eval.specs.Parts.{items_of, joined}
use Rattle.qk_eval.specs.declared.form.Form.{Form}
use Rattle.qk_eval.specs.declared.form.Form.TheVariants.{Int, Bool, List, Pair, Made}
use Rattle.qk_eval.specs.declared.items.Items.{Items}
use Rattle.qk_eval.specs.declared.items.Items.TheVariants.{Of, Before}

-- the items that are still to come
abbrev pub to_come : Items → Datas
to_come (Of value) = items_of value.now
to_come (Before items rest) = joined (datas_of items.now) (items_of rest.now)

-- the first item and then those behind it
abbrev pub first_and_others : Option (Bor Data × Items) → Datas
first_and_others None = end
first_and_others (Some (first, others)) = more first.now (to_come others)

abbrev pub data_in : Form → Data
data_in (Int n) = int n
data_in (Bool b) = bool b
data_in (List items) = list (to_come items)
data_in (Pair a b) = pair a.now b.now
data_in (Made k m parts) = made k m (datas_of parts.now)
