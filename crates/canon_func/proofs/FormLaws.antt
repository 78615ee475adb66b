-- What is said of an ask of a function of the host is as it has to be, in each form.
use Rattle.canon_host.specs.Forms.{HostFuncForm, IsLawful, over_types, over_values}
use Rattle.canon_func.specs.AskForms.{ask_form}
use Rattle.canon_func.proofs.AskLaws.{AskLawful, AskSound}
use Rattle.canon_func.proofs.TypesAsked.{types_lawful, types_sound}
use Rattle.canon_func.proofs.ValuesAsked.{values_lawful, values_sound}

pub form_sound : {T : Type 0} (form : HostFuncForm T) → AskSound (ask_form form)
form_sound (over_values may) = values_sound may
form_sound (over_types types may) = types_sound types may

pub form_lawful : {T : Type 0} (form : HostFuncForm T) → IsLawful form → AskLawful (ask_form form)
form_lawful (over_values may) lawful = values_lawful may
form_lawful (over_types types may) lawful = types_lawful types may lawful.taken lawful.walkable
