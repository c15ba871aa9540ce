-- The interface of properties: D-Bus Specification, "Standard Interfaces", "org.freedesktop.DBus.Properties"; the properties are
-- those of the Secret Service API draft 0.2.
use Rattle.std.specs.Prelude.{ℕ, Bool, List, [], ◌∷◌, map, Option, Some, None, Result, Ok, Err, ok_or, option_map, option_and_then}
use Rattle.std.specs.List.{find}
use Rattle.std.specs.Str.{bytes_eq}
use Rattle.dbus_types.specs.Values.{Val, Vals}
use Rattle.dbus_framing.specs.Headers.{string_in, held_in, one_of, two_of}
use Rattle.kr_names.specs.declared.object_name.ObjectName.{ObjectName}
use Rattle.secret_calls.specs.declared.call.Call.{Call}
use Rattle.secret_calls.specs.declared.call.Call.TheVariants as call
use Rattle.secret_calls.specs.declared.call.CallFault.{CallFault}
use Rattle.secret_calls.specs.declared.call.CallFault.TheVariants as fault
use Rattle.secret_calls.specs.declared.property.Property.{Property}
use Rattle.secret_calls.specs.declared.property.Property.TheVariants as property
use Rattle.secret_calls.specs.Outs.{property_text}
use Rattle.call_arguments.specs.Arguments.{three_of, attributes_in}
use Rattle.call_wire.specs.declared.interfaces.Interface.{Interface}
use Rattle.call_wire.specs.declared.interfaces.Interface.TheVariants as interface
use Rattle.call_wire.specs.declared.properties.Setter.{Setter}
use Rattle.call_wire.specs.declared.properties.Setter.TheVariants as setter
use Rattle.call_wire.specs.declared.properties.PropertyRow.{PropertyRow}
use Rattle.call_wire.specs.Collection.{collection_of}
use Rattle.call_wire.specs.Interfaces.{interface_named}
use Rattle.call_wire.specs.Item.{item_of}

-- ---- the table

-- a property that can't be set
abbrev read_only : Property → PropertyRow
read_only property = record { property = property; setter = None }

-- one that can, with what reads its value
abbrev written : Property → Setter → PropertyRow
written property setter = record { property = property; setter = Some setter }

-- the properties of each interface, in the order in which GetAll returns them
abbrev pub properties : Interface → List PropertyRow
properties interface.Service = read_only property.Collections ∷ []
properties interface.Collection =
    read_only property.Items ∷ written property.Label setter.CollectionLabel ∷ read_only property.Locked ∷ read_only property.Created ∷ read_only property.Modified ∷ []
properties interface.Item =
    written property.Label setter.ItemLabel ∷ written property.Attributes setter.ItemAttributes ∷ read_only property.Locked ∷ read_only property.Created ∷ read_only property.Modified ∷ []
properties it = []

-- whether a row is that of the property of this name
abbrev pub is_row_of : List ℕ → PropertyRow → Bool
is_row_of name row = bytes_eq name (property_text row.property)

-- what follows from what was found, or the fault in its place
abbrev pub on_found : {A B : Type 0} → Result A CallFault → (A → Result B CallFault) → Result B CallFault
on_found (Ok found) next = next found
on_found (Err fault) next = Err fault

-- the interface of this name, if the object has it
abbrev pub interface_called : Option ObjectName → List ℕ → Result Interface CallFault
interface_called object named = ok_or (interface_named object named) fault.UnknownInterface

-- the property of this name, if the interface has it
abbrev pub property_of : List ℕ → Interface → Result PropertyRow CallFault
property_of named it = ok_or (find (is_row_of named) (properties it)) fault.UnknownProperty

-- the property that is called by the names of its interface and of itself
abbrev pub property_called : Option ObjectName → List ℕ × List ℕ → Result PropertyRow CallFault
property_called object names = on_found (interface_called object names.0) (property_of names.1)

-- ---- the calls

-- two names
abbrev pub names_in : Val × Val → Result (List ℕ × List ℕ) CallFault
names_in two = ok_or (option_and_then (λ interface. option_map (λ name. (interface, name)) (string_in two.1)) (string_in two.0)) fault.InvalidArgs

-- Get of the property with these names
abbrev pub got : Option ObjectName → List ℕ × List ℕ → Result Call CallFault
got None names = Err fault.UnknownObject
got (Some object) names = on_found (property_called (Some object) names) (λ row. Ok (call.Get object row.property))

-- Get, with the name of an interface and that of a property
abbrev pub get : Option ObjectName → Vals → Result Call CallFault
get object values = on_found (on_found (ok_or (two_of values) fault.InvalidArgs) names_in) (got object)

-- GetAll of the interface of this name
abbrev pub all_got : Option ObjectName → List ℕ → Result Call CallFault
all_got None named = Err fault.UnknownObject
all_got (Some object) named = on_found (interface_called (Some object) named) (λ it. Ok (call.GetAll object (map (λ row. row.property) (properties it))))

-- GetAll, with the name of an interface
abbrev pub get_all : Option ObjectName → Vals → Result Call CallFault
get_all object values = on_found (ok_or (option_and_then string_in (one_of values)) fault.InvalidArgs) (all_got object)

-- the call that sets a property of the object to this value, if it is of the property's type
abbrev pub call_by : Setter → Option ObjectName → Val → Option Call
call_by setter.CollectionLabel object value =
    option_and_then (λ collection. option_map (λ label. call.SetCollectionLabel collection label) (string_in value)) (collection_of object)
call_by setter.ItemLabel object value = option_and_then (λ it. option_map (λ label. call.SetItemLabel it.0 it.1 label) (string_in value)) (item_of object)
call_by setter.ItemAttributes object value =
    option_and_then (λ it. option_map (λ attributes. call.SetAttributes it.0 it.1 attributes) (attributes_in value)) (item_of object)

-- the same; without what reads the value, the property can't be set
abbrev pub set_by : Option Setter → Option ObjectName → Val → Result Call CallFault
set_by None object value = Err fault.PropertyReadOnly
set_by (Some setter) object value = ok_or (call_by setter object value) fault.InvalidArgs

-- Set of the property with these names to this value
abbrev pub set_to : Option ObjectName → Val → List ℕ × List ℕ → Result Call CallFault
set_to object value names = on_found (property_called object names) (λ row. set_by row.setter object value)

-- Set with these three arguments
abbrev pub set_with : Option ObjectName → Val × Val × Val → Result Call CallFault
set_with object arguments = on_found (ok_or (held_in arguments.2) fault.InvalidArgs) (λ value. on_found (names_in (arguments.0, arguments.1)) (set_to object value))

-- Set, with the name of an interface, that of a property, and a value as a variant
abbrev pub set : Option ObjectName → Vals → Result Call CallFault
set object values = on_found (ok_or (three_of values) fault.InvalidArgs) (set_with object)
