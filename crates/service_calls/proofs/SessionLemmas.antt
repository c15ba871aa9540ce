-- The plan of OpenSession where the caller gets a session.
use Rattle.std.proofs.Common.{◌≡◌, ℕ, true, false, cond, List, [], ◌∷◌, length, ap, ◌∙◌}
use Rattle.std.proofs.lemmas.Bool.{le-leb}
use Rattle.kr_base.specs.declared.ids.ConnId.{ConnId}
use Rattle.session_table.specs.Sessions.{is_full}
use Rattle.service_events.specs.secret_calls.specs.declared.out.Body.TheVariants as body
use Rattle.service_events.specs.secret_calls.specs.declared.out.ErrorName.TheVariants as name
use Rattle.service_events.specs.secret_calls.specs.Outs.{spelled_body}
use Rattle.service_events.specs.service_tables.specs.Limits.{most_body}
use Rattle.service_events.specs.service_tables.specs.State.{State}
use Rattle.service_events.specs.service_tables.specs.Storing.{Brought}
use Rattle.service_events.specs.Plan.{Open_session, answered, refused}
use Rattle.service_events.specs.PublicBody as public
use Rattle.service_events.specs.Run.{asked, is_small}
use Rattle.service_events.specs.ServiceCalls.{is_plain, open_session}
use Rattle.service_events.proofs.SmallLemmas.{session-small}

module _ (caller : ConnId) (state : State) (room : is_full caller state.sessions ≡ false) where
  -- the caller gets its next session
  pub opens-plan : (brought : Brought) (algorithm : List ℕ) → is_plain algorithm ≡ true
      → open_session algorithm (asked caller brought state) ≡ answered (public.Session (record { 0 = state.sessions.next })) (Open_session ∷ [])
  opens-plan brought algorithm plain =
      let opens = answered (public.Session (record { 0 = state.sessions.next })) (Open_session ∷ []) in
      ap (λ b. cond b (cond (is_full caller state.sessions) (refused name.LimitsExceeded) opens) (refused name.NotSupported)) plain ∙ ap (λ b. cond b (refused name.LimitsExceeded) opens) room

  -- its return is small
  pub opened-small : is_small (body.Session (record { 0 = state.sessions.next })) ≡ true
  opened-small = le-leb (length (spelled_body (body.Session (record { 0 = state.sessions.next })))) most_body (session-small caller state room)
