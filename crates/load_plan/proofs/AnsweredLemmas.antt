-- What is counted over messages, one after the other.
use Rattle.std.proofs.Common.{◌≡◌, ℕ, List, [], ◌∷◌, ◌++◌, append-nil, refl, sym, ap, ◌∙◌}
use Rattle.dbus_framing.specs.Messages.{Parts}
use Rattle.dbus_framing.specs.Streams.{Cut, Stream}
use Rattle.dbus_framing.proofs.Cuts.{cut_none, cut_then, stream_then}
use Rattle.secret_calls.specs.declared.call.Call.{Call}
use Rattle.load_plan.specs.declared.counts.Counts.{Counts}
use Rattle.load_plan.specs.Counts.{none}
use Rattle.load_plan.specs.Answered.{most_bytes, with_message, with_messages, CountsMessages}

with_messages-push : (seed : ℕ) (calls : List Call) (counts : Counts) (messages : List Parts) (parts : Parts)
    → with_messages seed calls counts (messages ++ parts ∷ []) ≡ with_message seed calls (with_messages seed calls counts messages) parts
with_messages-push seed calls counts [] parts = refl
with_messages-push seed calls counts (one ∷ messages) parts = with_messages-push seed calls (with_message seed calls counts one) messages parts

-- the counts over the messages that were taken so far
pub record CountsSoFar (seed : ℕ) (calls : List Call) (bytes rest : List ℕ) (counts : Counts) : Type 0 where
  pub messages : List Parts
  pub cut : Cut most_bytes bytes messages rest
  pub counts_are : counts ≡ with_messages seed calls none messages

-- no message was taken
pub so-none : (seed : ℕ) (calls : List Call) (bytes : List ℕ) → CountsSoFar seed calls bytes bytes none
so-none seed calls bytes = record { messages = []; cut = cut_none most_bytes bytes; counts_are = refl }

-- one more was
pub so-on : (seed : ℕ) (calls : List Call) (bytes rest left : List ℕ) (counts after : Counts) (parts : Parts) → CountsSoFar seed calls bytes rest counts → Cut most_bytes rest (parts ∷ []) left
    → after ≡ with_message seed calls counts parts → CountsSoFar seed calls bytes left after
so-on seed calls bytes rest left counts after parts so cut is = record {
  messages = so.messages ++ parts ∷ [];
  cut = cut_then most_bytes bytes rest left so.messages (parts ∷ []) so.cut cut;
  counts_are = is ∙ ap (λ (c : Counts). with_message seed calls c parts) so.counts_are ∙ sym (with_messages-push seed calls none so.messages parts);
}

-- no further one is complete
pub so-last : (seed : ℕ) (calls : List Call) (bytes rest left : List ℕ) (counts : Counts) → CountsSoFar seed calls bytes rest counts → Stream most_bytes rest [] left
    → CountsMessages seed calls bytes counts
so-last seed calls bytes rest left counts so stream = record {
  messages = so.messages ++ [];
  rest = left;
  stream = stream_then most_bytes bytes rest left so.messages [] so.cut stream;
  counts_are = so.counts_are ∙ ap (λ (m : List Parts). with_messages seed calls none m) (sym (append-nil so.messages));
}
