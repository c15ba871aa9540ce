-- A refusal of a field is the refusal of the part that it becomes.
use Rattle.std.proofs.Common.{Result, refl}
use Rattle.keyring_text.specs.declared.fault.FieldFault.{FieldFault}
use Rattle.keyring_text.specs.declared.fault.ReadRefused.{ReadRefused}
use Rattle.keyring_text.specs.declared.fault.ReadRefused.TheVariants as refused
use Rattle.keyring_text.specs.FieldReading.{Fails}
use Rattle.keyring_file.specs.FileReading.{in_clear, clear_refused, in_area, area_refused}

pub fails-clear : {A : Type 0} (e : ReadRefused FieldFault) (r : Result A FieldFault) → Fails e r → Fails (clear_refused e) (in_clear r)
fails-clear refused.OutOfMemory r h = tt
fails-clear (refused.Fault f) r h = rw h refl

pub fails-area : {A : Type 0} (e : ReadRefused FieldFault) (r : Result A FieldFault) → Fails e r → Fails (area_refused e) (in_area r)
fails-area refused.OutOfMemory r h = tt
fails-area (refused.Fault f) r h = rw h refl
