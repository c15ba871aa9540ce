-- The rows of the table of calls for the interface of properties (D-Bus Specification, "Standard Interfaces",
-- "org.freedesktop.DBus.Properties"; Secret Service API draft 0.2, the properties of the interfaces Service, Collection and Item). The
-- refusals are in their order.
use Rattle.std.specs.Prelude.{ℕ, not, if◌then◌else◌, List, [], Option, Some, None, Result, Ok, Err}
use Rattle.std.specs.List.{filter_map}
use Rattle.std.specs.Option.{option_map}
use Rattle.kr_base.specs.declared.attributes.AttrValue.{AttrValue}
use Rattle.kr_base.specs.declared.ids.ItemId.{ItemId}
use Rattle.kr_names.specs.declared.object_name.ObjectName.{ObjectName}
use Rattle.kr_names.specs.declared.object_name.ObjectName.TheVariants as object
use Rattle.service_prompts.specs.secret_calls.specs.declared.out.ErrorName.{ErrorName}
use Rattle.service_prompts.specs.secret_calls.specs.declared.out.ErrorName.TheVariants as name
use Rattle.service_prompts.specs.secret_calls.specs.declared.property.Property.{Property}
use Rattle.service_prompts.specs.secret_calls.specs.declared.property.Property.TheVariants as property
use Rattle.service_prompts.specs.secret_calls.specs.declared.property.PropertyValue.{PropertyValue}
use Rattle.service_prompts.specs.secret_calls.specs.declared.property.PropertyValue.TheVariants as shown
use Rattle.service_prompts.specs.secret_calls.specs.declared.property.ShownProperty.{ShownProperty}
use Rattle.service_prompts.specs.service_tables.specs.Objects.{collection_named, collection_paths, item_paths}
use Rattle.service_prompts.specs.service_tables.specs.Questions.{CollectionQuestions}
use Rattle.service_prompts.specs.service_tables.specs.Storing.{Edit, Set_attributes, Set_label, Set_name}
use Rattle.service_events.specs.declared.holder.Holder.{Holder}
use Rattle.service_events.specs.declared.holder.Holder.TheVariants as holder
use Rattle.service_events.specs.CollectionCalls.{if_open, on_collection, storing}
use Rattle.service_events.specs.Plan.{Questions, Plan, refused, answered}
use Rattle.service_events.specs.PublicBody as public

-- ---- what is shown of the objects that are there

-- the value of a property of the service
abbrev pub of_service : CollectionQuestions → Property → Option PropertyValue
of_service asked property.Collections = Some (shown.Objects (collection_paths asked.stems))
of_service asked other = None

-- the value of a property of a collection, which is shown while it is locked, too
abbrev pub of_collection : CollectionQuestions → List ℕ → Property → Option PropertyValue
of_collection asked stem property.Items = Some (shown.Objects (item_paths stem (asked.found_in stem [])))
of_collection asked stem property.Label = Some (shown.Text (asked.label stem))
of_collection asked stem property.Locked = Some (shown.Truth (not (asked.is_open stem)))
of_collection asked stem property.Created = Some (shown.Moment (asked.times stem).created)
of_collection asked stem property.Modified = Some (shown.Moment (asked.times stem).modified)
of_collection asked stem other = None

-- the value of a property of an item
abbrev pub of_item : CollectionQuestions → List ℕ → ItemId → Property → Option PropertyValue
of_item asked stem item property.Label = Some (shown.Text (asked.item_label stem item))
of_item asked stem item property.Attributes = Some (shown.Attributes (asked.item_attributes stem item))
of_item asked stem item property.Locked = Some (shown.Truth (not (asked.is_open stem)))
of_item asked stem item property.Created = Some (shown.Moment (asked.item_times stem item).created)
of_item asked stem item property.Modified = Some (shown.Moment (asked.item_times stem item).modified)
of_item asked stem item other = None

-- the value of a property of an object, if it has the property
abbrev pub value_of : CollectionQuestions → Holder → Property → Option PropertyValue
value_of asked holder.Service it = of_service asked it
value_of asked (holder.Collection stem) it = of_collection asked stem it
value_of asked (holder.Item stem item) it = of_item asked stem item it
value_of asked holder.Nothing it = None

-- a property with its value, if the object has the property
abbrev pub shown_by : CollectionQuestions → Holder → Property → Option ShownProperty
shown_by asked held it = option_map (λ value. record { property = it; value = value }) (value_of asked held it)

-- ---- which objects are there

-- the collection that is named, if it is there
abbrev pub collection_held : Option (List ℕ) → Result Holder ErrorName
collection_held None = Err name.NoSuchObject
collection_held (Some stem) = Ok (holder.Collection stem)

-- what the properties of an object are read of: NoSuchObject if it isn't there, and NoSession if it is no session of the caller; a
-- caller's prompts are its own, too
abbrev pub holder_of : ObjectName → Questions → Result Holder ErrorName
holder_of object.Nothing asked = Err name.NoSuchObject
holder_of object.Service asked = Ok holder.Service
holder_of object.Agent asked = Ok holder.Nothing
holder_of (object.Collection stem) asked = collection_held (collection_named asked.collections (object.Collection stem))
holder_of (object.Alias alias) asked = collection_held (collection_named asked.collections (object.Alias alias))
holder_of (object.Item stem item) asked = if asked.collections.has_item stem item then Ok (holder.Item stem item) else Err name.NoSuchObject
holder_of (object.Session session) asked = if asked.sessions.owns session then Ok holder.Nothing else Err name.NoSession
holder_of (object.Prompt prompt) asked = if asked.prompts.owns prompt then Ok holder.Nothing else Err name.NoSuchObject

-- what is done with an object that is there; the error if it isn't
abbrev pub on_holder : Result Holder ErrorName → (Holder → Plan) → Plan
on_holder (Ok it) next = next it
on_holder (Err error) next = refused error

-- ---- the rows

-- the return of a value; an object without the property refuses, which no call leads to that is read by the table of properties
abbrev pub value_returned : Option PropertyValue → Plan
value_returned None = refused name.UnknownProperty
value_returned (Some value) = answered (public.Property value) []

-- Get: the value of the property
abbrev pub get : ObjectName → Property → Questions → Plan
get target it asked = on_holder (holder_of target asked) (λ held. value_returned (value_of asked.collections held it))

-- GetAll: the given properties with their values, in order
abbrev pub get_all : ObjectName → List Property → Questions → Plan
get_all target properties asked =
    on_holder (holder_of target asked) (λ held. answered (public.Properties (filter_map (shown_by asked.collections held) properties)) [])

-- an edit of a collection that is stored and returns nothing, if the collection is unlocked
abbrev pub editing : List ℕ → Edit → Questions → Plan
editing stem edit asked = if_open stem asked (storing stem edit (λ _. public.Empty) (asked.storable stem edit))

-- Set of the label of a collection
abbrev pub set_collection_label : ObjectName → List ℕ → Questions → Plan
set_collection_label collection label asked = on_collection (collection_named asked.collections collection) (λ stem. editing stem (Set_name label) asked)

-- the same for an item: NoSuchObject if it isn't there
abbrev pub editing_item : List ℕ → ItemId → Edit → Questions → Plan
editing_item stem item edit asked = if asked.collections.has_item stem item then editing stem edit asked else refused name.NoSuchObject

-- Set of the label of an item
abbrev pub set_item_label : List ℕ → ItemId → List ℕ → Questions → Plan
set_item_label stem item label asked = editing_item stem item (Set_label item label) asked

-- Set of the attributes of an item
abbrev pub set_attributes : List ℕ → ItemId → List (List ℕ × AttrValue) → Questions → Plan
set_attributes stem item attributes asked = editing_item stem item (Set_attributes item attributes) asked
