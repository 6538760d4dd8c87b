-- What the answer of the enabled list says, case by case: 01's number and values.
use Rattle.std.specs.Prelude.{Result}
use Rattle.field.specs.Answer.{Answer}
use Rattle.field.specs.Says.{says}
use Rattle.field.specs.declared.Refusal.{Refusal}
use Rattle.enabling.specs.Enabled as enabled
use Rattle.enabling.specs.declared.Enabling.{Enabling}
use Rattle.enabling.specs.declared.Enabling.TheVariants.{Many, Stuck}

abbrev pub enabling_told : Enabling → enabled.Enabling
enabling_told (Many n) = enabled.enabling n
enabling_told Stuck = enabled.stuck

abbrev pub enabling_says : Result Enabling Refusal → Answer enabled.Enabling
enabling_says = says enabling_told
