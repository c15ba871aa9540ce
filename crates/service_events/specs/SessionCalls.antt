-- The rows of the table of calls for Ping (D-Bus Specification, "Standard Interfaces") and Close (Secret Service API draft
-- 0.2, "org.freedesktop.Secret.Session"), and the session that a call is given. The refusals are in their order.
use Rattle.std.specs.Prelude.{if◌then◌else◌, [], ◌∷◌, Option, Some, None}
use Rattle.kr_base.specs.declared.ids.SessionId.{SessionId}
use Rattle.service_events.specs.PublicBody as public
use Rattle.service_prompts.specs.secret_calls.specs.declared.out.ErrorName.TheVariants as name
use Rattle.service_events.specs.Plan.{Questions, Plan, Close_session, refused, answered}

-- Ping: an empty return, and no change
abbrev pub ping : Questions → Plan
ping asked = answered public.Empty []

-- Close: the caller's session ends
abbrev pub close_session : SessionId → Questions → Plan
close_session session asked =
    if asked.sessions.owns session
    then answered public.Empty (Close_session session ∷ [])
    else refused name.NoSession

-- what is done with a session that is given: NoSession unless it is one of the caller's
abbrev pub with_session : Option SessionId → Questions → (SessionId → Plan) → Plan
with_session None asked next = refused name.NoSession
with_session (Some session) asked next = if asked.sessions.owns session then next session else refused name.NoSession
