-- What the answer of firing says, case by case: 01's number and values.
use Rattle.std.specs.Prelude.{Result}
use Rattle.field.specs.Answer.{Answer}
use Rattle.field.specs.Says.{says}
use Rattle.field.specs.declared.Refusal.{Refusal}

abbrev pub fired_says : Result (Unit {0}) Refusal → Answer (Unit {0})
fired_says = says (λ u. u)
