-- The predefined calls without effects, and the methods of values.
use Rattle.std.specs.Prelude.{ℕ, ◌+◌, ◌*◌, ◌-◌, ℤ, pos, negsuc, neg_ℤ, int_le, Bool, true, false, ◌&&◌, ◌==◌, not, List, [], ◌∷◌, length, take, drop, if◌then◌else◌}
use Rattle.std.specs.Fmt.{signed_decimal}
use Rattle.std.specs.List.{list_all}
use Rattle.std.specs.declared.option.Option.{Option}
use Rattle.std.specs.declared.option.Option.TheVariants.{None, Some}
use Rattle.flow_base.specs.ErrorNumbers.{end_of_stream, bad_argument, broken_promise, not_ready, operation_cancelled, timed_out}
use Rattle.flow_base.specs.Names.{digits_from, are_digits}
use Rattle.flow_ast.specs.declared.predefined.Predefined as code
use Rattle.flow_ast.specs.declared.predefined.Predefined.TheVariants.{ToString, ToInt, Now, EndOfStream, TimedOut, BrokenPromise, OperationCancelled, ActorCancelled, Error}
use Rattle.flow_ast.specs.declared.predefined.Method.{Method}
use Rattle.flow_ast.specs.declared.predefined.Method.TheVariants.{Code, Size, Substr, IsReady, IsError, Get, GetFuture, IsSet, At}
use Rattle.flow_value.specs.declared.value.Kind.{Kind}
use Rattle.flow_value.specs.declared.value.Kind.TheVariants.{Promise, Future, PromiseStream, FutureStream}
use Rattle.flow_value.specs.Values.{ValueTree, ValueTrees, IntValue, BoolValue, TextValue, ErrorValue, CompositeValue, RefValue, ListWhole, OutcomeTree, GoodOutcome, BadOutcome, value_at, count_of}
use Rattle.flow_eval.specs.Answers.{Answer, Given, Throws, NoMeaning, if_int, int_of, text_of, arg}

abbrev pub signed : Bool → ℕ → ℤ
signed true n = neg_ℤ (pos n)
signed false n = pos n

abbrev pub read_digits : Bool → List ℕ → Option ℤ
read_digits minus ds = if are_digits ds then if_int (signed minus (digits_from 0 ds)) (signed minus (digits_from 0 ds)) else None

-- a text as an int: an optional `-`, and one or more digits
abbrev pub read_int : List ℕ → Option ℤ
read_int [] = None
read_int (b ∷ bs) = if b == 45 then read_digits true bs else read_digits false (b ∷ bs)

abbrev pub int_read : Option ℤ → Answer
int_read None = Throws bad_argument
int_read (Some z) = Given (IntValue z)

abbrev pub to_string : Option ℤ → Answer
to_string None = NoMeaning
to_string (Some z) = Given (TextValue (signed_decimal z))

abbrev pub to_int : Option (List ℕ) → Answer
to_int None = NoMeaning
to_int (Some t) = int_read (read_int t)

-- the error of a number from 0 to 65,535
abbrev pub in_error_range : ℤ → Bool
in_error_range z = int_le (pos 0) z && int_le z (pos 65535)

abbrev pub natural : ℤ → ℕ
natural (pos n) = n
natural (negsuc n) = 0

abbrev pub error_number : Option ℤ → Answer
error_number None = NoMeaning
error_number (Some z) = if in_error_range z then Given (ErrorValue (natural z)) else Throws bad_argument

-- a predefined call with these arguments at this time; effects and statement calls are none
abbrev pub call_answer : code.Predefined → ℤ → List ValueTree → Answer
call_answer ToString now vs = to_string (int_of (arg vs 0))
call_answer ToInt now vs = to_int (text_of (arg vs 0))
call_answer Now now vs = Given (IntValue now)
call_answer EndOfStream now vs = Given (ErrorValue end_of_stream)
call_answer TimedOut now vs = Given (ErrorValue timed_out)
call_answer BrokenPromise now vs = Given (ErrorValue broken_promise)
call_answer OperationCancelled now vs = Given (ErrorValue operation_cancelled)
call_answer ActorCancelled now vs = Given (ErrorValue operation_cancelled)
call_answer Error now vs = error_number (int_of (arg vs 0))
call_answer _ now vs = NoMeaning

-- a part of a text, clipped at its end
abbrev pub clipped : List ℕ → ℤ → ℤ → Answer
clipped t from count =
    if int_le (pos 0) from && int_le from (pos (length t)) && int_le (pos 0) count
    then Given (TextValue (take (natural count) (drop (natural from) t)))
    else Throws bad_argument

abbrev pub substr : List ℕ → Option ℤ → Option ℤ → Answer
substr t (Some from) (Some count) = clipped t from count
substr t _ _ = NoMeaning

abbrev pub text_method : Method → List ℕ → List ValueTree → Answer
text_method Size t vs = Given (IntValue (pos (length t)))
text_method Substr t vs = substr t (int_of (arg vs 0)) (int_of (arg vs 1))
text_method _ t vs = NoMeaning

-- an element, counted from 0
abbrev pub element : ValueTrees → ℤ → Option ValueTree
element es (pos n) = value_at es n
element es (negsuc n) = None

abbrev pub element_got : Option ValueTree → Answer
element_got None = Throws bad_argument
element_got (Some v) = Given v

abbrev pub indexed : ValueTrees → Option ℤ → Answer
indexed es None = NoMeaning
indexed es (Some z) = element_got (element es z)

abbrev pub list_method : Method → ValueTrees → List ValueTree → Answer
list_method Size es vs = Given (IntValue (pos (count_of es)))
list_method At es vs = indexed es (int_of (arg vs 0))
list_method _ es vs = NoMeaning

abbrev pub is_set : Option OutcomeTree → Bool
is_set None = false
is_set (Some o) = true

abbrev pub has_error : Option OutcomeTree → Bool
has_error (Some (BadOutcome e)) = true
has_error _ = false

-- what a future gives: its value, its own error, or the error of one that isn't ready
abbrev pub got : Option OutcomeTree → Answer
got None = Throws not_ready
got (Some (GoodOutcome v)) = Given v
got (Some (BadOutcome e)) = Throws e

abbrev pub future_method : Method → Option OutcomeTree → Answer
future_method IsReady o = Given (BoolValue (is_set o))
future_method IsError o = Given (BoolValue (has_error o))
future_method Get o = got o
future_method _ o = NoMeaning

abbrev pub promise_method : Method → ℕ → Option OutcomeTree → Answer
promise_method GetFuture c o = Given (RefValue Future c)
promise_method IsSet c o = Given (BoolValue (is_set o))
promise_method _ c o = NoMeaning

abbrev pub stream_method : Method → ℕ → Answer
stream_method GetFuture c = Given (RefValue FutureStream c)
stream_method _ c = NoMeaning

abbrev pub error_method : Method → ℕ → Answer
error_method Code e = Given (IntValue (pos e))
error_method _ e = NoMeaning

abbrev pub reference_method : (ℕ → Option OutcomeTree) → Method → Kind → ℕ → Answer
reference_method cells m Future c = future_method m (cells c)
reference_method cells m Promise c = promise_method m c (cells c)
reference_method cells m PromiseStream c = stream_method m c
reference_method cells m FutureStream c = NoMeaning

-- a method of a value with these arguments, over what the set cells hold
abbrev pub method_answer : (ℕ → Option OutcomeTree) → Method → ValueTree → List ValueTree → Answer
method_answer cells m (ErrorValue e) vs = error_method m e
method_answer cells m (TextValue t) vs = text_method m t vs
method_answer cells m (RefValue k c) vs = reference_method cells m k c
method_answer cells m (CompositeValue ListWhole es) vs = list_method m es vs
method_answer cells m _ vs = NoMeaning
