use Rattle.std.proofs.Common.{List, [], ℕ, Ok, Err, OnOk}
use Rattle.std.specs.declared.option.Option.{Option}
use Rattle.std.specs.declared.result.Result.{Result}
use Rattle.std.specs.Io.KnownBytes.{Appends}
use Rattle.end_printing.specs.Input.{Told, TellsSome}
use Rattle.end_printing.proofs.Filling.{some-input}
use Rattle.end_printing.proofs.run.Goals as goal

-- a write that goes well appends the text
tells : {E : Type 0} (before after : Option (List ℕ)) (delivered : ℕ) (text : List ℕ) (r : Result (Unit {0}) E) → Told [] delivered text → OnOk r (Appends before after text) → OnOk r (TellsSome before after)
tells before after delivered text (Ok x) T written = record { delivered = delivered; text = text; told = T; appended = written }
tells before after delivered text (Err e) T written = tt

pub returns : goal.returns
returns g c = tells _ _ _ _ _ (some-input _ _ _ _ c.in_ok-text.ensures.told) c.print_text.ensures
