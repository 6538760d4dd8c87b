-- What the answers of the code that runs a record say, case by case: 01's number and values.
use Rattle.std.specs.Prelude.{Result, Ok, Err}
use Rattle.field.specs.Says.{number_of}
use Rattle.run.specs.Run.{Verdict, finished, unfinished, refusal}
use Rattle.run.specs.declared.Ran.{Ran}
use Rattle.run.specs.declared.Ran.TheVariants.{Finished, Unfinished}
use Rattle.run.specs.declared.Stopped.{Stopped}

abbrev pub ran_says : Result Ran Stopped → Verdict
ran_says (Ok (Finished k)) = finished k
ran_says (Ok (Unfinished k)) = unfinished k
ran_says (Err s) = refusal (number_of s.refusal.fault) s.refusal.carried s.steps
