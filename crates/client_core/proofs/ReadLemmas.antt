-- The service reads the message of a call as this call.
use Rattle.std.proofs.Common.{◌≡◌, ℕ, ◌≤◌, ◌&&◌, nat_le, nat_lt, Bool, true, false, IsTrue, List, [], ◌∷◌, map, length, Option, Some, None, IfSome, Ok, option_map, option_and_then, ok_or, refl, sym, ap, ◌∙◌, arith}
use Rattle.std.specs.Bool.{Decides}
use Rattle.std.specs.List.{list_all}
use Rattle.std.proofs.lemmas.Bool.Decides.{nat_tests, Decides-by_and}
use Rattle.kr_base.specs.declared.attributes.AttrValue.{AttrValue}
use Rattle.kr_base.specs.declared.attributes.AttrValue.TheVariants as value
use Rattle.kr_base.specs.declared.ids.ItemId.{ItemId}
use Rattle.kr_base.specs.declared.ids.PromptId.{PromptId}
use Rattle.kr_base.specs.declared.ids.SessionId.{SessionId}
use Rattle.kr_base.specs.Attributes.{gathered}
use Rattle.kr_base.proofs.OrderedLemmas.{Gathers-itself}
use Rattle.kr_base.proofs.GatheredLemmas.{is_gathered}
use Rattle.kr_names.specs.declared.object_name.ObjectName.{ObjectName}
use Rattle.kr_names.specs.declared.object_name.ObjectName.TheVariants as name
use Rattle.kr_names.specs.Escape.{is_path_byte}
use Rattle.kr_names.specs.Naming.{is_alias, name_of_path}
use Rattle.kr_names.specs.Path.{path_text, sessions, prompts, IsAliasName, IsName, IsPathOf}
use Rattle.dbus_types.specs.declared.complete_type.BasicType.TheVariants as basics
use Rattle.dbus_types.specs.Values.{Val}
use Rattle.dbus_types.specs.ValueViews.{bit_of}
use Rattle.dbus_framing.specs.Headers.{where_is}
use Rattle.secret_calls.specs.declared.call.Call.{Call}
use Rattle.secret_calls.specs.declared.call.Call.TheVariants as call
use Rattle.secret_calls.specs.declared.call.CallFault.TheVariants as fault
use Rattle.secret_calls.specs.declared.call.Request.{Request}
use Rattle.secret_calls.specs.declared.secret.Secret.{Secret}
use Rattle.secret_calls.specs.declared.property.Property.{Property}
use Rattle.secret_calls.specs.declared.property.Property.TheVariants as property
use Rattle.secret_calls.specs.Outs.{path_values, property_text}
use Rattle.call_arguments.specs.Arguments.{attributes_of, all_in, object_in, session_named, session_of_name, session_in, prompt_of_name, prompt_in, name_in, alias_named, wanted_alias, text_pair_in, attributes_in, secret_in, truth_in}
use Rattle.call_wire.specs.Collection.{description_in, made_with}
use Rattle.call_wire.specs.declared.properties.Setter.{Setter}
use Rattle.call_wire.specs.declared.properties.Setter.TheVariants as setter
use Rattle.call_wire.specs.Interfaces.{interface_name, interfaces}
use Rattle.call_wire.specs.Members.{members, call_with}
use Rattle.call_wire.specs.Properties.{got, all_got, call_by, set_by}
use Rattle.call_wire.specs.declared.members.Method.{Method}
use Rattle.call_wire.specs.declared.members.Method.TheVariants as method
use Rattle.call_wire.specs.CallOf as reading
use Rattle.call_wire.specs.CallOf.{CallOf, call_on}
use Rattle.client_core.specs.Arguments.{nothing_path, strange_path, path_value, session_text, prompt_text, object_text, alias_text, attribute_text, attribute_values, attributes_value, given_secret, item_properties, own_interface, arguments_of}
use Rattle.client_core.specs.Askable.{IsCollection, IsObject, has_property, own_properties, IsSessionName, IsPromptName, IsGiven, AreNames, ArePairs, AreAttributes, HasArguments, CanBeAsked}
use Rattle.client_core.specs.Asked.{object_of, spelled, said}

-- a path has the name whose path it is; a law of kr_names
abbrev pub Naming : Type 0
Naming = (path : List ℕ) (name : ObjectName) → IsPathOf name path → name_of_path path ≡ Some name

is_path : (name : ObjectName) → IsName name → IsPathOf name (path_text name)
is_path name is = record { named = is; spelled = refl }

-- ---- aliases

le_Decides : (a b : ℕ) → Decides (nat_le a b) (a ≤ b)
le_Decides a b = (λ e. grind (arith, nat_tests), λ le. grind (arith, nat_tests))

three : (a b c : Bool) → a ≡ true → b ≡ true → c ≡ true → (a && (b && c)) ≡ true
three true true true p q r = refl
three true true false p q r = r
three true false c p q r = q
three false b c p q r = p

alias_test : (alias : List ℕ) → IsAliasName alias → is_alias alias ≡ true
alias_test alias is =
    three (nat_lt 0 (length alias)) (nat_le (length alias) 64) (list_all is_path_byte alias) (grind (arith, nat_tests, is.some)) ((le_Decides (length alias) 64).1 is.fits)
    ((Decides-by_and is_path_byte (λ byte. IsTrue (is_path_byte byte)) (list_all is_path_byte) (λ byte. (λ e. e, λ e. e)) refl (λ x xs. refl) alias).1 is.bytes)

alias_again : (alias : List ℕ) → IsAliasName alias → alias_named alias ≡ Some alias
alias_again alias is = ap (λ b. where_is b alias) (alias_test alias is)

wanted_again : (alias : Option (List ℕ)) → IfSome alias IsAliasName → wanted_alias (alias_text alias) ≡ Some alias
wanted_again None is = refl
wanted_again (Some []) is = absurd (omega (arith, is.some))
wanted_again (Some (code ∷ alias)) is = ap (option_map Some) (alias_again (code ∷ alias) is)

-- ---- attributes

-- the pairs of texts
abbrev pairs_of : List (List ℕ × AttrValue) → List (List ℕ × List ℕ)
pairs_of [] = []
pairs_of (pair ∷ pairs) = (pair.0, attribute_text pair.1) ∷ pairs_of pairs

pairs_again : (pairs : List (List ℕ × AttrValue)) → all_in text_pair_in (attribute_values pairs) ≡ Some (pairs_of pairs)
pairs_again [] = refl
pairs_again (pair ∷ pairs) = ap (λ o. option_map (λ more. (pair.0, attribute_text pair.1) ∷ more) o) (pairs_again pairs)

texts_again : (pairs : List (List ℕ × AttrValue)) → ArePairs pairs → map (λ p. (p.0, value.Text p.1)) (pairs_of pairs) ≡ pairs
texts_again [] are = refl
texts_again ((key, value.Text text) ∷ pairs) are = ap (λ more. (key, value.Text text) ∷ more) (texts_again pairs are.2)
texts_again ((key, value.Number number) ∷ pairs) are = absurd are

attributes_again : (attributes : List (List ℕ × AttrValue)) → AreAttributes attributes → attributes_in (attributes_value attributes) ≡ Some attributes
attributes_again attributes are =
    ap (option_map attributes_of) (pairs_again attributes)
    ∙ ap (λ pairs. Some (gathered pairs)) (texts_again attributes are.texts)
    ∙ ap Some (sym (is_gathered attributes attributes (Gathers-itself attributes are.ordered)))

module _ (naming : Naming) where
  -- ---- objects

  named_again : (name : ObjectName) → IsName name → name_of_path (path_text name) ≡ Some name
  named_again name is = naming (path_text name) name (is_path name is)

  nothing_again : name_of_path nothing_path ≡ Some name.Nothing
  nothing_again = named_again name.Nothing tt

  session_again : (session : Option SessionId) → IsSessionName session → session_in (path_value (session_text session)) ≡ Some session
  unfolding sessions
  session_again None is = ap (λ o. Some (session_of_name o)) nothing_again
  session_again (Some session) is = ap (λ o. Some (session_of_name o)) (named_again (name.Session session) is)

  prompt_again : (prompt : Option PromptId) → IsPromptName prompt → prompt_in (path_value (prompt_text prompt)) ≡ Some prompt
  unfolding prompts
  prompt_again None is = ap (λ o. Some (prompt_of_name o)) nothing_again
  prompt_again (Some prompt) is = ap (λ o. Some (prompt_of_name o)) (named_again (name.Prompt prompt) is)

  strange_again : name_of_path strange_path ≡ None
  unfolding name_of_path
  strange_again = refl

  object_again : (object : Option ObjectName) → IfSome object IsName → name_in (path_value (object_text object)) ≡ Some object
  object_again None is = ap Some strange_again
  object_again (Some object) is = ap Some (named_again object is)

  one_object : (name : ObjectName) → IsName name → object_in (path_value (path_text name)) ≡ Some name
  one_object name is = rw (named_again name is) refl

  objects_again : (names : List ObjectName) → AreNames names → all_in object_in (path_values (map path_text names)) ≡ Some names
  objects_again [] are = refl
  objects_again (name ∷ names) are =
      ap (λ (o : Option ObjectName). option_and_then (λ one. option_map (λ more. one ∷ more) (all_in object_in (path_values (map path_text names)))) o) (one_object name are.0)
      ∙ ap (λ (o : Option (List ObjectName)). option_map (λ more. name ∷ more) o) (objects_again names are.1)

  secret_again : (secret : Secret) → IsGiven secret → secret_in (given_secret secret) ≡ Some secret
  secret_again secret is =
      let same : Some (session_named (session_text secret.session)) ≡ Some secret.session = session_again secret.session is.session in
      let held : session_named (session_text secret.session) ≡ secret.session = cc in
      ap (λ (s : Option SessionId). Some (record secret { session = s })) held

  -- ---- calls

  -- the method that a call is read by
  abbrev method_of : Call → Method
  method_of (call.OpenSession algorithm) = method.OpenSession
  method_of (call.CreateCollection label alias) = method.CreateCollection
  method_of (call.SearchItems wanted) = method.SearchItems
  method_of (call.Unlock objects) = method.Unlock
  method_of (call.Lock objects) = method.Lock
  method_of (call.GetSecrets items session) = method.GetSecrets
  method_of (call.ReadAlias name) = method.ReadAlias
  method_of (call.SetAlias alias object) = method.SetAlias
  method_of (call.SearchCollection collection wanted) = method.SearchCollection
  method_of (call.CreateItem collection label attributes secret replace) = method.CreateItem
  method_of (call.DeleteCollection collection) = method.DeleteCollection
  method_of (call.ChangePassword collection) = method.ChangePassword
  method_of (call.DeleteItem stem item) = method.DeleteItem
  method_of (call.GetSecret stem item session) = method.GetSecret
  method_of (call.SetSecret stem item secret) = method.SetSecret
  method_of (call.CloseSession session) = method.CloseSession
  method_of (call.Get object property) = method.Get
  method_of (call.GetAll object properties) = method.GetAll
  method_of (call.SetCollectionLabel collection label) = method.Set
  method_of (call.SetItemLabel stem item label) = method.Set
  method_of (call.SetAttributes stem item attributes) = method.Set
  method_of (call.Prompt prompt) = method.Prompt
  method_of (call.Dismiss prompt) = method.Dismiss
  method_of call.Register = method.Register
  method_of call.Unregister = method.Unregister
  method_of (call.Answer prompt round password) = method.Answer
  method_of (call.Refuse prompt round) = method.Refuse
  method_of call.Ping = method.Ping

  -- the interface Properties is on each object
  get_on : (serial : ℕ) (object : ObjectName) (it : Property) → IsTrue (has_property object it)
      → call_on (Some object) (said (call.Get object it) serial) ≡ call_with method.Get (Some object) (arguments_of (call.Get object it))
  unfolding members
  get_on serial name.Nothing it has = absurd (let no : false ≡ true = has in cc)
  get_on serial name.Service it has = refl
  get_on serial _ it has = refl

  all_on : (serial : ℕ) (object : ObjectName) (them : List Property) → IsObject object
      → call_on (Some object) (said (call.GetAll object them) serial) ≡ call_with method.GetAll (Some object) (arguments_of (call.GetAll object them))
  unfolding members
  all_on serial name.Nothing them is = absurd is
  all_on serial name.Service them is = refl
  all_on serial _ them is = refl

  -- on its object, it is a call of this method
  on_object : (serial : ℕ) (call : Call) → HasArguments call → call_on (Some (object_of call)) (said call serial) ≡ call_with (method_of call) (Some (object_of call)) (arguments_of call)
  unfolding members
  on_object serial (call.SearchCollection (name.Collection stem) wanted) has = refl
  on_object serial (call.SearchCollection (name.Alias alias) wanted) has = refl
  on_object serial (call.SearchCollection _ wanted) has = absurd has.0
  on_object serial (call.CreateItem (name.Collection stem) label attributes secret replace) has = refl
  on_object serial (call.CreateItem (name.Alias alias) label attributes secret replace) has = refl
  on_object serial (call.CreateItem _ label attributes secret replace) has = absurd has.0
  on_object serial (call.DeleteCollection (name.Collection stem)) has = refl
  on_object serial (call.DeleteCollection (name.Alias alias)) has = refl
  on_object serial (call.DeleteCollection _) has = absurd has
  on_object serial (call.ChangePassword (name.Collection stem)) has = refl
  on_object serial (call.ChangePassword (name.Alias alias)) has = refl
  on_object serial (call.ChangePassword _) has = absurd has
  on_object serial (call.Get object property) has = get_on serial object property has
  on_object serial (call.GetAll object properties) has = all_on serial object properties has.0
  on_object serial (call.SetCollectionLabel (name.Collection stem) label) has = refl
  on_object serial (call.SetCollectionLabel (name.Alias alias) label) has = refl
  on_object serial (call.SetCollectionLabel _ label) has = absurd has.0
  on_object serial call has = refl

  -- the properties of a new item
  described : (label : List ℕ) (attributes : List (List ℕ × AttrValue)) → AreAttributes attributes → description_in (item_properties label attributes) ≡ Some (label, attributes)
  described label attributes are = ap (λ (o : Option (List (List ℕ × AttrValue))). option_map (λ held. (label, held)) o) (attributes_again attributes are)

  bit_again : (truth : Bool) → truth_in (Val.number basics.Boolean (bit_of truth)) ≡ Some truth
  bit_again true = refl
  bit_again false = refl

  -- a new item
  made : (collection : ObjectName) (label : List ℕ) (attributes : List (List ℕ × AttrValue)) (secret : Secret) (replace : Bool) → AreAttributes attributes → IsGiven secret
      → ok_or (made_with collection (item_properties label attributes, given_secret secret, Val.number basics.Boolean (bit_of replace))) fault.InvalidArgs
      ≡ Ok (call.CreateItem collection label attributes secret replace)
  made collection label attributes secret replace are is =
      let truth = Val.number basics.Boolean (bit_of replace) in
      ap (λ (d : Option (List ℕ × List (List ℕ × AttrValue))). ok_or (option_and_then (λ it. option_and_then (λ held. option_map (λ again. call.CreateItem collection it.0 it.1 held again) (truth_in truth)) (secret_in (given_secret secret))) d) fault.InvalidArgs)
      (described label attributes are)
      ∙ ap (λ (o : Option Secret). ok_or (option_and_then (λ held. option_map (λ again. call.CreateItem collection label attributes held again) (truth_in truth)) o) fault.InvalidArgs) (secret_again secret is)
      ∙ ap (λ (o : Option Bool). ok_or (option_map (λ again. call.CreateItem collection label attributes secret again) o) fault.InvalidArgs) (bit_again replace)

  -- the property of an object is found by the names of its interface and of itself
  got_again : (object : ObjectName) (it : Property) → IsTrue (has_property object it) → got (Some object) (interface_name (own_interface object), property_text it) ≡ Ok (call.Get object it)
  unfolding interfaces
  got_again name.Service property.Collections has = refl
  got_again (name.Collection stem) property.Items has = refl
  got_again (name.Collection stem) property.Label has = refl
  got_again (name.Collection stem) property.Locked has = refl
  got_again (name.Collection stem) property.Created has = refl
  got_again (name.Collection stem) property.Modified has = refl
  got_again (name.Alias alias) property.Items has = refl
  got_again (name.Alias alias) property.Label has = refl
  got_again (name.Alias alias) property.Locked has = refl
  got_again (name.Alias alias) property.Created has = refl
  got_again (name.Alias alias) property.Modified has = refl
  got_again (name.Item stem item) property.Label has = refl
  got_again (name.Item stem item) property.Attributes has = refl
  got_again (name.Item stem item) property.Locked has = refl
  got_again (name.Item stem item) property.Created has = refl
  got_again (name.Item stem item) property.Modified has = refl
  got_again _ _ has = absurd (let no : false ≡ true = has in cc)

  all_again : (object : ObjectName) → IsObject object → all_got (Some object) (interface_name (own_interface object)) ≡ Ok (call.GetAll object (own_properties object))
  unfolding interfaces
  all_again name.Nothing is = absurd is
  all_again name.Service is = refl
  all_again _ is = refl

  -- a property is set to what the value is read as
  set_again : (setter : Setter) (object : ObjectName) (held : Val) (wanted : Call) → call_by setter (Some object) held ≡ Some wanted → set_by (Some setter) (Some object) held ≡ Ok wanted
  set_again setter object held wanted is = ap (λ o. ok_or o fault.InvalidArgs) is

  set_label : (collection : ObjectName) (label : List ℕ) → IsCollection collection
      → call_with method.Set (Some collection) (arguments_of (call.SetCollectionLabel collection label)) ≡ Ok (call.SetCollectionLabel collection label)
  unfolding interfaces
  set_label (name.Collection stem) label is = refl
  set_label (name.Alias alias) label is = refl
  set_label _ label is = absurd is

  set_item_label : (stem : List ℕ) (item : ItemId) (label : List ℕ)
      → call_with method.Set (Some (name.Item stem item)) (arguments_of (call.SetItemLabel stem item label)) ≡ Ok (call.SetItemLabel stem item label)
  unfolding interfaces
  set_item_label stem item label = refl

  set_attributes : (stem : List ℕ) (item : ItemId) (attributes : List (List ℕ × AttrValue))
      → call_with method.Set (Some (name.Item stem item)) (arguments_of (call.SetAttributes stem item attributes)) ≡ set_by (Some setter.ItemAttributes) (Some (name.Item stem item)) (attributes_value attributes)
  unfolding interfaces
  set_attributes stem item attributes = refl

  -- and the method reads its arguments
  by_method : (call : Call) → HasArguments call → call_with (method_of call) (Some (object_of call)) (arguments_of call) ≡ Ok call
  by_method (call.OpenSession algorithm) has = refl
  by_method (call.CreateCollection label alias) has =
      ap (λ (o : Option (Option (List ℕ))). ok_or (option_map (λ it. call.CreateCollection label it) o) fault.InvalidArgs) (wanted_again alias has.1)
  by_method (call.SearchItems wanted) has =
      ap (λ (o : Option (List (List ℕ × AttrValue))). ok_or (option_map (λ it. call.SearchItems it) o) fault.InvalidArgs) (attributes_again wanted has)
  by_method (call.Unlock objects) has =
      ap (λ (o : Option (List ObjectName)). ok_or (option_map (λ it. call.Unlock it) o) fault.InvalidArgs) (objects_again objects has)
  by_method (call.Lock objects) has =
      ap (λ (o : Option (List ObjectName)). ok_or (option_map (λ it. call.Lock it) o) fault.InvalidArgs) (objects_again objects has)
  by_method (call.GetSecrets items session) has =
      ap (λ (o : Option (List ObjectName)). ok_or (option_and_then (λ them. option_map (λ it. call.GetSecrets them it) (session_in (path_value (session_text session)))) o) fault.InvalidArgs) (objects_again items has.0)
      ∙ ap (λ (o : Option (Option SessionId)). ok_or (option_map (λ it. call.GetSecrets items it) o) fault.InvalidArgs) (session_again session has.1)
  by_method (call.ReadAlias name) has = refl
  by_method (call.SetAlias alias object) has =
      ap (λ (o : Option (List ℕ)). ok_or (option_and_then (λ named. option_map (λ it. call.SetAlias named it) (name_in (path_value (object_text object)))) o) fault.InvalidArgs) (alias_again alias has.0)
      ∙ ap (λ (o : Option (Option ObjectName)). ok_or (option_map (λ it. call.SetAlias alias it) o) fault.InvalidArgs) (object_again object has.1)
  by_method (call.SearchCollection (name.Collection stem) wanted) has =
      ap (λ (o : Option (List (List ℕ × AttrValue))). ok_or (option_map (λ it. call.SearchCollection (name.Collection stem) it) o) fault.InvalidArgs) (attributes_again wanted has.1)
  by_method (call.SearchCollection (name.Alias alias) wanted) has =
      ap (λ (o : Option (List (List ℕ × AttrValue))). ok_or (option_map (λ it. call.SearchCollection (name.Alias alias) it) o) fault.InvalidArgs) (attributes_again wanted has.1)
  by_method (call.SearchCollection _ wanted) has = absurd has.0
  by_method (call.CreateItem (name.Collection stem) label attributes secret replace) has = made (name.Collection stem) label attributes secret replace has.2 has.3
  by_method (call.CreateItem (name.Alias alias) label attributes secret replace) has = made (name.Alias alias) label attributes secret replace has.2 has.3
  by_method (call.CreateItem _ label attributes secret replace) has = absurd has.0
  by_method (call.DeleteCollection (name.Collection stem)) has = refl
  by_method (call.DeleteCollection (name.Alias alias)) has = refl
  by_method (call.DeleteCollection _) has = absurd has
  by_method (call.ChangePassword (name.Collection stem)) has = refl
  by_method (call.ChangePassword (name.Alias alias)) has = refl
  by_method (call.ChangePassword _) has = absurd has
  by_method (call.GetSecret stem item session) has =
      ap (λ (o : Option (Option SessionId)). ok_or (option_map (λ it. call.GetSecret stem item it) o) fault.InvalidArgs) (session_again session has)
  by_method (call.SetSecret stem item secret) has =
      ap (λ (o : Option Secret). ok_or (option_map (λ it. call.SetSecret stem item it) o) fault.InvalidArgs) (secret_again secret has)
  by_method (call.Get object property) has = got_again object property has
  by_method (call.GetAll object properties) has = all_again object has.0 ∙ ap (λ them. Ok (call.GetAll object them)) (sym has.1)
  by_method (call.SetCollectionLabel collection label) has = set_label collection label has.0
  by_method (call.SetItemLabel stem item label) has = set_item_label stem item label
  by_method (call.SetAttributes stem item attributes) has =
      set_attributes stem item attributes
      ∙ set_again setter.ItemAttributes (name.Item stem item) (attributes_value attributes) (call.SetAttributes stem item attributes)
      (ap (λ (o : Option (List (List ℕ × AttrValue))). option_map (λ it. call.SetAttributes stem item it) o) (attributes_again attributes has))
  by_method (call.Answer prompt round password) has =
      ap (λ (o : Option (Option PromptId)). ok_or (option_and_then (λ it. Some (call.Answer it round password)) o) fault.InvalidArgs) (prompt_again prompt has.0)
  by_method (call.Refuse prompt round) has =
      ap (λ (o : Option (Option PromptId)). ok_or (option_and_then (λ it. Some (call.Refuse it round)) o) fault.InvalidArgs) (prompt_again prompt has.0)
  by_method call has = refl

  pub again : (serial : ℕ) (call : Call) → CanBeAsked call → call_on (reading.object_of (said call serial).path) (said call serial) ≡ Ok call
  again serial call can =
      ap (λ o. call_on o (said call serial)) (named_again (object_of call) can.object)
      ∙ on_object serial call can.arguments ∙ by_method call can.arguments

  pub read_again : (serial : ℕ) (call : Call) (request : Request) → CanBeAsked call → CallOf (said call serial) request
      → (request.call ≡ Ok call) × (request.serial.number ≡ serial) × (request.wants_reply ≡ true) × (request.length ≡ length (spelled call serial))
  read_again serial call request can is = (is.call ∙ again serial call can, is.serial, is.wants_reply, is.length)
