-- What is seen of a trouble and of an advice, without where their words lie in memory.
use Rattle.top_hints.specs.declared.advice.Advice as declared_advice
use Rattle.top_hints.specs.declared.trouble.Trouble as declared_trouble
use Rattle.top_hints.specs.declared.words.Texts as declared_texts
use Rattle.top_hints.specs.Advice.{Advice}
use Rattle.top_hints.specs.Hint.{Trouble}
use Rattle.top_hints.specs.Words.{Texts}

abbrev pub trouble_seen : declared_trouble.Trouble → Trouble
trouble_seen t = record { name = t.name.now; cause = t.cause.now }

abbrev pub texts_seen : declared_texts.Texts → Texts
texts_seen t = record { conf = t.conf.now; script = t.script.now; graphs = t.graphs.now }

abbrev pub advice_seen : declared_advice.Advice → Advice
advice_seen a = record { before = a.before.now; conf = a.conf.now; behind = a.behind.now }
