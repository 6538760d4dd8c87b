-- 01, "Refusal numbers": the number of each reason; and what a call says whose code answers with a value or a refusal.
use Rattle.std.specs.Prelude.{ℕ, Result, Ok, Err}
use Rattle.field.specs.Refusals as paper
use Rattle.field.specs.Answer.{Answer, good, refused}
use Rattle.field.specs.declared.Fault.{Fault}
use Rattle.field.specs.declared.Fault.TheVariants.{PlanTooLong, OperandDue, TooDeep, FieldCut, UnknownTag, WrongBody, WrongLabel, TooManyActions, BytesAfter, BodyNotExclusive, TooManyPlaces, TooManyTransitions, TooManyArcs, TableTooShort, RecordTooLong, RecordFieldCut, WrongTag, WrongLength, NotRising, NoNet, NoMarking, NoTransition, InputEmpty, InputShared, TwoTokens}
use Rattle.field.specs.declared.Refusal.{Refusal}

abbrev pub number_of : Fault → ℕ
number_of PlanTooLong = paper.plan_too_long
number_of OperandDue = paper.operand_due
number_of TooDeep = paper.too_deep
number_of FieldCut = paper.field_cut
number_of UnknownTag = paper.unknown_tag
number_of WrongBody = paper.wrong_body
number_of WrongLabel = paper.wrong_label
number_of TooManyActions = paper.too_many_actions
number_of BytesAfter = paper.bytes_after
number_of BodyNotExclusive = paper.body_not_exclusive
number_of TooManyPlaces = paper.too_many_places
number_of TooManyTransitions = paper.too_many_transitions
number_of TooManyArcs = paper.too_many_arcs
number_of TableTooShort = paper.table_too_short
number_of RecordTooLong = paper.record_too_long
number_of RecordFieldCut = paper.record_field_cut
number_of WrongTag = paper.wrong_tag
number_of WrongLength = paper.wrong_length
number_of NotRising = paper.not_rising
number_of NoNet = paper.no_net
number_of NoMarking = paper.no_marking
number_of NoTransition = paper.no_transition
number_of InputEmpty = paper.input_empty
number_of InputShared = paper.input_shared
number_of TwoTokens = paper.two_tokens

-- The answer, where `f` tells what a value stands for.
abbrev pub says : {A B : Type 0} → (A → B) → Result A Refusal → Answer B
says f (Ok x) = good (f x)
says f (Err e) = refused (number_of e.fault) e.carried
