-- The text of a value.
use Rattle.std.specs.Prelude.{ℕ, Bool, true, false, List, [], ◌++◌, codes, decimal, if◌then◌else◌}
use Rattle.std.specs.Fmt.{signed_decimal}
use Rattle.flow_base.specs.Quote.{quoted}
use Rattle.flow_value.specs.declared.value.Kind.{Kind}
use Rattle.flow_value.specs.declared.value.Kind.TheVariants.{Promise, Future, PromiseStream, FutureStream}
use Rattle.flow_value.specs.Values.{ValueTree, IntValue, BoolValue, TextValue, VoidValue, ErrorValue, CompositeValue, RefValue, Whole, RecordWhole, ListWhole, ValueTrees, NoValues, MoreValues}

-- the word of a kind of reference
abbrev pub kind_text : Kind → List ℕ
kind_text Promise = codes "Promise#"
kind_text Future = codes "Future#"
kind_text PromiseStream = codes "PromiseStream#"
kind_text FutureStream = codes "FutureStream#"

-- what stands before the parts of a value, and behind them
abbrev pub opening : Whole → List ℕ
opening (RecordWhole r) = codes "("
opening ListWhole = codes "["

abbrev pub closing : Whole → List ℕ
closing (RecordWhole r) = codes ")"
closing ListWhole = codes "]"

-- a comma before each part but the first
abbrev pub separator : (first : Bool) → List ℕ
separator true = []
separator false = codes ", "

-- A number in decimal, `true` or `false`, a text in quotes, `Void()`, `error(N)`, parts in brackets, a reference by its kind and its cell.
abbrev mutual
  pub value_text : ValueTree → List ℕ
  value_text (IntValue n) = signed_decimal n
  value_text (BoolValue b) = if b then codes "true" else codes "false"
  value_text (TextValue t) = quoted t
  value_text VoidValue = codes "Void()"
  value_text (ErrorValue e) = codes "error(" ++ decimal e ++ codes ")"
  value_text (CompositeValue w vs) = opening w ++ parts_text true vs ++ closing w
  value_text (RefValue kind cell) = kind_text kind ++ decimal cell

  pub parts_text : (first : Bool) → ValueTrees → List ℕ
  parts_text first NoValues = []
  parts_text first (MoreValues v vs) = separator first ++ value_text v ++ parts_text false vs
