use Rattle.load_laws.proofs.LawLemmas.{counts-all}
use Rattle.load_laws.proofs.answer_laws.a_load_counts_all.Goals as goal

pub returns : goal.returns
returns c items seed contents asked counts few sound empty unused are legal faultless finished is =
    counts-all c.what_the_service_sends_is_read_again.ensures.returned c.what_is_sent_is_read_again.ensures.message c.each_request_has_one_reply.ensures c.short_announcements_fit.ensures items seed contents asked counts few sound empty unused are legal faultless finished is
