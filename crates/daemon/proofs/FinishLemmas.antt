-- Finishing jobs, the oldest first.
use Rattle.std.specs.Prelude.{◌≡◌, ℕ, List, [], ◌∷◌, ◌++◌, Some}
use Rattle.std.specs.List.{AllZip}
use Rattle.std.proofs.Common.{refl, ap, sym, subst, ◌∙◌, append_assoc, append-nil}
use Rattle.daemon.specs.Accepts.{FinishesAll}
use Rattle.daemon.specs.Spawners.{Spawning, Finishes}

module _ {J S : Type 0} (Serves : J → S → Type 0) where
  -- a spawner with these jobs that aren't finished
  abbrev with_jobs : Spawning J → List J → Spawning J
  with_jobs spawner jobs = record spawner { started = jobs }

  -- the first of the jobs was finished
  pub finishes : (old : Spawning J) (items rest : List J) (faults unstarted : ℕ) (job : J) (served : S)
      → old ≡ record { started = items; faults = faults; unstarted = unstarted } → items ≡ job ∷ rest → Serves job served
      → Finishes Serves old (record { started = rest; faults = faults; unstarted = unstarted }) (Some served)
  finishes old items rest faults unstarted job served is front serves = (job, rw (is, front) refl, serves)

  -- So far: these jobs were finished, the others are still to be, and the results are appended.
  pub record IsFinishing (old now : Spawning J) (done_old done_now : List S) : Type 0 where
    pub jobs : List J
    pub results : List S
    pub served : AllZip Serves jobs results
    pub are : old.started ≡ jobs ++ now.started
    pub same : now ≡ record old { started = now.started }
    pub appended : done_now ≡ done_old ++ results

  -- two lists that agree at each place agree after one more
  zip-more : (jobs : List J) (results : List S) (job : J) (served : S) → AllZip Serves jobs results → Serves job served → AllZip Serves (jobs ++ job ∷ []) (results ++ served ∷ [])
  zip-more [] [] job served all one = (one, tt)
  zip-more [] (s ∷ ss) job served all one = elim all [ ]
  zip-more (j ∷ js) [] job served all one = elim all [ ]
  zip-more (j ∷ js) (s ∷ ss) job served all one = (all.0, zip-more js ss job served all.1 one)

  -- at first none is finished
  pub none-finished : (old : Spawning J) (done : List S) → IsFinishing old old done done
  none-finished old done = record { jobs = []; results = []; served = tt; are = refl; same = refl; appended = sym (append-nil done) }

  -- one more is finished
  pub one-finished : (old now next : Spawning J) (done_old done_now : List S) (served : S)
      → IsFinishing old now done_old done_now → Finishes Serves now next (Some served) → IsFinishing old next done_old (done_now ++ served ∷ [])
  one-finished old now next done_old done_now served so (job, is, one) = record {
    jobs = so.jobs ++ job ∷ [];
    results = so.results ++ served ∷ [];
    served = zip-more so.jobs so.results job served so.served one;
    are = so.are ∙ (ap (λ (n : Spawning J). so.jobs ++ n.started) is ∙ sym (append_assoc so.jobs (job ∷ []) next.started));
    same = ap (λ (n : Spawning J). with_jobs n next.started) (sym is) ∙ ap (λ (n : Spawning J). with_jobs n next.started) so.same;
    appended = ap (λ (d : List S). d ++ served ∷ []) so.appended ∙ append_assoc done_old so.results (served ∷ []);
  }

  -- at last all are
  pub all-finished : (old now : Spawning J) (done_old done_now : List S) → IsFinishing old now done_old done_now → now.started ≡ [] → FinishesAll Serves old now done_old done_now
  all-finished old now done_old done_now so none = record {
    results = so.results;
    served = subst (λ (js : List J). AllZip Serves js so.results) (sym (so.are ∙ (ap (λ (js : List J). so.jobs ++ js) none ∙ append-nil so.jobs))) so.served;
    appended = so.appended;
    finished = so.same ∙ ap (λ (js : List J). with_jobs old js) none;
  }
