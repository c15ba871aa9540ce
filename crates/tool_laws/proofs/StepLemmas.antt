-- The steps of a script, each of which is answered, make its calls.
use Rattle.std.proofs.Common.{◌≡◌, List, [], ◌∷◌, ◌++◌, length, slice_get, Option, Some, None, refl, sym, ap, subst, ◌∙◌, append-nil}
use Rattle.std.specs.Option.{option_map, option_or}
use Rattle.std.proofs.lemmas.List.{append_assoc}
use Rattle.std.proofs.lemmas.Option.{none-some, same_Some}
use Rattle.kr_base.specs.declared.ids.ConnId.{ConnId}
use Rattle.client_core.specs.declared.reply.Reply.{Reply}
use Rattle.service_events.specs.secret_calls.specs.declared.call.Call.{Call}
use Rattle.service_events.specs.secret_calls.specs.declared.call.Call.TheVariants as call
use Rattle.service_events.specs.service_tables.specs.State.{State}
use Rattle.tool_script.specs.declared.command.Command.{Command}
use Rattle.tool_script.specs.declared.command.Command.TheVariants as command
use Rattle.tool_script.specs.declared.steps.ScriptEnd.{ScriptEnd}
use Rattle.tool_script.specs.declared.steps.ToolStep.{ToolStep}
use Rattle.tool_script.specs.declared.steps.ToolStep.TheVariants as step
use Rattle.tool_script.specs.Script as script
use Rattle.tool_script.specs.Script.{print, step_after, step_of}
use Rattle.tool_script.proofs.ScriptLemmas.{ended-is, grows-ended, grows-sent, sent-is}
use Rattle.tool_laws.specs.Conversations.{Answered, AreAnswered, AreSteps}

-- ---- the end

-- the end of a step
abbrev end-or : ScriptEnd → ToolStep → ScriptEnd
end-or other (step.Send it) = other
end-or other (step.End end) = end

end-is : (got : Option Call) (end : Option ScriptEnd) (it : ScriptEnd) → option_or (option_map (λ c. step.Send c) got) (option_map (λ e. step.End e) end) ≡ Some (step.End it) → end ≡ Some it
end-is (Some one) end it e = absurd (let its : step.Send one ≡ step.End it = same_Some (step.Send one) (step.End it) e in cc)
end-is None None it e = absurd (none-some (step.End it) e)
end-is None (Some one) it e = ap (λ (x : ScriptEnd). Some x) (ap (end-or one) (same_Some (step.End one) (step.End it) e))

pub ended-print : (it : Command) (replies : List Reply) (end : ScriptEnd) → step_after it replies ≡ Some (step.End end) → print it replies ≡ Some end
ended-print it replies end e = end-is (slice_get (script.script it replies) (length replies)) (print it replies) end e

-- ---- the calls

-- a script has one call before any reply
first-call : (it : Command) → (one : Call) × (script.script it [] ≡ one ∷ [])
first-call (command.Store label attributes secret) = (script.open_session, refl)
first-call (command.Lookup wanted) = (script.open_session, refl)
first-call (command.Search wanted) = (call.SearchItems wanted, refl)
first-call (command.Clear wanted) = (call.SearchItems wanted, refl)
first-call command.Lock = (script.collections, refl)

-- the calls that were answered are those of the script, but for one that is made next
record AreThose (it : Command) (heard : List Reply) (calls : List Call) : Type 0 where
  sent : (one : Call) → step_after it heard ≡ Some (step.Send one) → script.script it heard ≡ calls ++ one ∷ []
  ended : (end : ScriptEnd) → step_after it heard ≡ Some (step.End end) → script.script it heard ≡ calls

those-first : (it : Command) → AreThose it [] []
those-first it =
    let first = first-call it in
    record {
      sent = λ one e.
          first.1 ∙ ap (λ (c : Call). c ∷ []) (same_Some first.0 one (ap (λ (l : List Call). slice_get l 0) (sym first.1) ∙ sent-is (script.script it []) (print it []) 0 one e));
      ended = λ end e. absurd (none-some first.0 (sym (ended-is (script.script it []) (print it []) 0 end e) ∙ ap (λ (l : List Call). slice_get l 0) first.1));
    }

those-next : (it : Command) (heard : List Reply) (calls : List Call) (one : Call) (reply : Reply) → script.script it heard ≡ calls ++ one ∷ [] → AreThose it (heard ++ reply ∷ []) (calls ++ one ∷ [])
those-next it heard calls one reply are = record {
  sent = λ other e. grows-sent it heard reply other e ∙ ap (λ (l : List Call). l ++ other ∷ []) are;
  ended = λ end e. grows-ended it heard reply end e ∙ are;
}

-- one more call is answered
answered-more : (caller : ConnId) (calls : List Call) (heard : List Reply) (first state next : State) (one : Call) (reply : Reply) → AreAnswered caller first calls heard state
    → Answered caller state one reply next → AreAnswered caller first (calls ++ one ∷ []) (heard ++ reply ∷ []) next
answered-more caller [] [] first state next one reply are is = (next, subst (λ (s : State). Answered caller s one reply next) are is, refl)
answered-more caller [] (r ∷ heard) first state next one reply are is = absurd are
answered-more caller (c ∷ calls) [] first state next one reply are is = absurd are
answered-more caller (c ∷ calls) (r ∷ heard) first state next one reply are is = (are.0, are.1, answered-more caller calls heard are.0 state next one reply are.2 is)

-- what is to be shown of all replies
abbrev Whole : Command → ConnId → State → State → ScriptEnd → List Reply → Type 0
Whole it caller first last end replies = step_after it replies ≡ Some (step.End end) → AreAnswered caller first (script.script it replies) replies last

walk : (it : Command) (caller : ConnId) (first : State) (calls : List Call) (heard : List Reply) (state last : State) (more : List Reply) (end : ScriptEnd) → AreAnswered caller first calls heard state
    → AreThose it heard calls → AreSteps it caller heard state more last → Whole it caller first last end (heard ++ more)
walk it caller first calls heard state last [] end are those steps =
    subst (Whole it caller first last end) (sym (append-nil heard))
    (λ e. subst (λ (l : List Call). AreAnswered caller first l heard last) (sym (those.ended end e)) (subst (λ (s : State). AreAnswered caller first calls heard s) (sym steps) are))
walk it caller first calls heard state last (reply ∷ more) end are those steps =
    subst (Whole it caller first last end) (append_assoc heard (reply ∷ []) more)
    (walk it caller first (calls ++ steps.0 ∷ []) (heard ++ reply ∷ []) steps.1 last more end (answered-more caller calls heard first state steps.1 steps.0 reply are steps.3)
    (those-next it heard calls steps.0 reply (those.sent steps.0 steps.2)) steps.4)

pub steps-answered : (it : Command) (caller : ConnId) (state last : State) (replies : List Reply) (end : ScriptEnd) → AreSteps it caller [] state replies last
    → step_after it replies ≡ Some (step.End end) → AreAnswered caller state (script.script it replies) replies last
steps-answered it caller state last replies end steps e = walk it caller state [] [] state last replies end refl (those-first it) steps e
