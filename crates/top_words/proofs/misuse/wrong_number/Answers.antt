use Rattle.top_words.specs.Misuse.{wrong_number}
use Rattle.top_words.specs.Views.{misuse_seen}
use Rattle.top_words.proofs.Misused.{seen_first}
use Rattle.top_words.proofs.misuse.wrong_number.Goals as goal

pub returns : goal.returns
unfolding wrong_number
returns c =
    seen_first misuse_seen c.or-6.result c.or-5.result c.wrong-7.result _ _ c.or-6.ensures
    (seen_first misuse_seen c.or-5.result c.or-4.result c.wrong-6.result _ _ c.or-5.ensures
    (seen_first misuse_seen c.or-4.result c.or-3.result c.wrong-5.result _ _ c.or-4.ensures
    (seen_first misuse_seen c.or-3.result c.or-2.result c.wrong-4.result _ _ c.or-3.ensures
    (seen_first misuse_seen c.or-2.result c.or.result c.wrong-3.result _ _ c.or-2.ensures
    (seen_first misuse_seen c.or.result c.wrong.result c.wrong-2.result _ _ c.or.ensures
    c.wrong.ensures c.wrong-2.ensures) c.wrong-3.ensures) c.wrong-4.ensures) c.wrong-5.ensures) c.wrong-6.ensures) c.wrong-7.ensures
