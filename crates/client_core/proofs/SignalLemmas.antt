-- A signal is read as what the service sent.
use Rattle.std.proofs.Common.{◌≡◌, ℕ, ◌^◌, ◌<◌, Bool, List, [], ◌∷◌, Option, Some, None, option_map, option_and_then, refl, ap, ◌∙◌}
use Rattle.std.specs.Option.{option_or}
use Rattle.kr_base.specs.declared.ids.PromptId.{PromptId}
use Rattle.kr_names.specs.declared.object_name.ObjectName.TheVariants as name
use Rattle.kr_names.specs.Path.{prompts}
use Rattle.secret_calls.specs.declared.changed.ChangedObject.{ChangedObject}
use Rattle.secret_calls.specs.declared.changed.ChangedObject.TheVariants as changed
use Rattle.secret_calls.specs.declared.out.Out.TheVariants as out
use Rattle.secret_calls.specs.declared.property.Property.{Property}
use Rattle.secret_calls.specs.declared.property.ShownProperty.{ShownProperty}
use Rattle.secret_calls.specs.declared.signal.AskKind.{AskKind}
use Rattle.secret_calls.specs.declared.signal.AskKind.TheVariants as purpose
use Rattle.secret_calls.specs.declared.signal.Completion.{Completion}
use Rattle.secret_calls.specs.declared.signal.Completion.TheVariants as completion
use Rattle.secret_calls.specs.declared.signal.Signal.{Signal}
use Rattle.secret_calls.specs.declared.signal.Signal.TheVariants as signal
use Rattle.dbus_types.specs.declared.complete_type.BasicType.TheVariants as basics
use Rattle.dbus_types.specs.Values.{Val}
use Rattle.dbus_types.specs.ValueViews.{bit_of}
use Rattle.secret_calls.specs.Outs.{changed_interface, changed_path, completion_value, kind_text, name_values, names_value, prompt_path, properties_value, IsSignal}
use Rattle.call_arguments.specs.Arguments.{all_in, prompt_named, prompt_of_name, truth_in}
use Rattle.call_wire.specs.Said.{said}
use Rattle.client_core.specs.Replies.{properties_in}
use Rattle.client_core.specs.Signals.{changed_object, name_at, names_in, purpose_named, result_in, signal_in, HasNumber}
use Rattle.client_core.proofs.AnswerLemmas.{Naming, named_again, paths_again, bit_again, property_again, properties_again}

purpose_again : (it : AskKind) → purpose_named (kind_text it) ≡ Some it
purpose_again purpose.Unlock = refl
purpose_again purpose.Create = refl
purpose_again purpose.Change = refl

result_again : (result : Completion) → result_in (completion_value result) ≡ Some result
result_again (completion.Objects objects) =
    ap (λ (o : Option (List (List ℕ))). option_or (option_map (λ (them : List (List ℕ)). completion.Objects them) o) None) (paths_again objects)
result_again (completion.Object object) = refl

object_again : (object : ChangedObject) → changed_object (changed_path object) (changed_interface object) ≡ Some object
object_again changed.Service = refl
object_again (changed.Collection collection) = refl
object_again (changed.Item item) = refl

module _ (naming : Naming) where
  prompt_again : (prompt : PromptId) → 0 < prompt.0 → prompt.0 < 2 ^ 64 → prompt_named (prompt_path prompt.0) ≡ Some prompt
  unfolding prompts
  prompt_again prompt some fits = ap prompt_of_name (named_again naming (name.Prompt prompt) (some, fits))

  names_among_again : (names : List Property) → all_in name_at (name_values names) ≡ Some names
  names_among_again [] = refl
  names_among_again (one ∷ names) =
      ap (λ (o : Option Property). option_and_then (λ (it : Property). option_map (λ more. it ∷ more) (all_in name_at (name_values names))) o) (property_again naming one)
      ∙ ap (λ (o : Option (List Property)). option_map (λ more. one ∷ more) o) (names_among_again names)

  names_again : (names : List Property) → names_in (names_value names) ≡ Some names
  names_again names = names_among_again names

  pub signal_again : (signal : Signal) (serial : ℕ) → IsSignal signal → HasNumber signal → signal_in (said (out.Signal signal) serial) ≡ Some signal
  signal_again (signal.Ask prompt round kind label wrong) serial is some =
      ap (λ (o : Option PromptId). option_and_then (λ (it : PromptId). option_and_then (λ (purpose : AskKind). Some (signal.Ask it round purpose label wrong)) (purpose_named (kind_text kind))) o) (prompt_again prompt some is.0)
      ∙ ap (λ (o : Option AskKind). option_and_then (λ (purpose : AskKind). Some (signal.Ask prompt round purpose label wrong)) o) (purpose_again kind)
  signal_again (signal.Completed prompt dismissed result) serial is some =
      let bit = Val.number basics.Boolean (bit_of dismissed) in
      let held = completion_value result in
      ap (λ (o : Option PromptId). option_and_then (λ (it : PromptId). option_and_then (λ (b : Bool). option_map (λ (r : Completion). signal.Completed it b r) (result_in held)) (truth_in bit)) o) (prompt_again prompt some is.0)
      ∙ ap (λ (o : Option Bool). option_and_then (λ (b : Bool). option_map (λ (r : Completion). signal.Completed prompt b r) (result_in held)) o) (bit_again naming dismissed)
      ∙ ap (λ (o : Option Completion). option_map (λ (r : Completion). signal.Completed prompt dismissed r) o) (result_again result)
  signal_again (signal.CollectionCreated collection) serial is some = refl
  signal_again (signal.CollectionDeleted collection) serial is some = refl
  signal_again (signal.CollectionChanged collection) serial is some = refl
  signal_again (signal.ItemCreated collection item) serial is some = refl
  signal_again (signal.ItemDeleted collection item) serial is some = refl
  signal_again (signal.ItemChanged collection item) serial is some = refl
  signal_again (signal.PropertiesChanged object properties names) serial is some =
      let listed = properties_value properties in
      let named = names_value names in
      ap (λ (o : Option ChangedObject). option_and_then (λ (it : ChangedObject). option_and_then (λ (them : List ShownProperty). option_map (λ (others : List Property). signal.PropertiesChanged it them others) (names_in named)) (properties_in listed)) o)
      (object_again object)
      ∙ ap (λ (o : Option (List ShownProperty)). option_and_then (λ (them : List ShownProperty). option_map (λ (others : List Property). signal.PropertiesChanged object them others) (names_in named)) o)
      (properties_again naming properties)
      ∙ ap (λ (o : Option (List Property)). option_map (λ (others : List Property). signal.PropertiesChanged object properties others) o) (names_again names)
