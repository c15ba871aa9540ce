use Rattle.std.proofs.Common.{ap, drop, sym, subst, ◌∙◌}
use Rattle.std.proofs.lemmas.List.Elements.{All-drop}
use Rattle.kr_memory.specs.Links.{IsNewLink, AreNew}
use Rattle.kr_memory.proofs.links.SteadyLinksListener.accept.Goals as goal

-- the links left are those from the second on
pub invariant_of-self-in-Some : goal.invariant_of-self-in-Some
invariant_of-self-in-Some g c = (
  subst (AreNew g.I.Source.is_closed g.I.Source.faults g.O.Sink.is_closed g.O.Sink.faults) (sym c.pop_front.ensures.rest)
      (All-drop (IsNewLink g.I.Source.is_closed g.I.Source.faults g.O.Sink.is_closed g.O.Sink.faults) 1 _ c.self.invariant.0),
  λ ended. c.pop_front.ensures.rest ∙ ap (λ links. drop 1 links) (c.self.invariant.1 ended),
)
