-- The row of the table of calls for our own interface of collections (docs/SERVICE.md, "Interfaces"). The refusals are in their order.
use Rattle.std.specs.Prelude.{ℕ, true, List, Option, Some, None}
use Rattle.kr_base.specs.declared.ids.PromptId.{PromptId}
use Rattle.kr_names.specs.declared.object_name.ObjectName.{ObjectName}
use Rattle.kr_names.specs.declared.object_name.ObjectName.TheVariants as object
use Rattle.kr_names.specs.Path.{path_text}
use Rattle.prompt_state.specs.declared.row.PromptKind.TheVariants as kind
use Rattle.service_prompts.specs.service_tables.specs.Objects.{collection_named}
use Rattle.service_events.specs.CollectionCalls.{if_open, on_collection}
use Rattle.service_events.specs.Plan.{Questions, Plan}
use Rattle.service_events.specs.PublicBody.{PublicBody}
use Rattle.service_events.specs.PublicBody as public
use Rattle.service_events.specs.ServiceCalls.{with_new_prompt}

-- the return of a call that does nothing before its prompt completes: the prompt
abbrev pub the_prompt : Option PromptId → PublicBody
the_prompt None = public.Object (path_text object.Nothing)
the_prompt (Some prompt) = public.Object (path_text (object.Prompt prompt))

-- ChangePassword: a prompt that changes the password of the collection, with this salt
abbrev pub change_password : ObjectName → List ℕ → Questions → Plan
change_password collection salt asked =
    on_collection (collection_named asked.collections collection)
    (λ stem. if_open stem asked (with_new_prompt true the_prompt (kind.Change stem salt) asked))
