use Rattle.std.proofs.Common.{◌∙◌, Some, sym, ap, map}
use Rattle.std.proofs.lemmas.List.{map-id}
use Rattle.clap.specs.Words.{app_of}
use Rattle.raid_text.specs.Text.{Text}
use Rattle.top_words.specs.Misuse.{misused}
use Rattle.top_words.proofs.Misused.{taken_by, refused_by}
use Rattle.top_words.proofs.misuse.misuse_of.Goals as goal

pub returns-in-Ok : goal.returns-in-Ok
returns-in-Ok c =
    c.misused.ensures ∙ (ap misused c.given_by.ensures
    ∙ sym (taken_by (app_of c.in_ok-app.app) c.args.words.now (map (λ (n : Text). n) c.args.words.now) c.in-Ok.matches
    c.in_ok-app.ensures (map-id c.args.words.now) c.in-Ok.ensures.kinds c.in-Ok.ensures.matches))

pub returns : goal.returns
returns c =
    ap (λ m. Some m) c.unformed.ensures ∙
    sym (refused_by (app_of c.in_ok-app.app) c.args.words.now (map (λ (n : Text). n) c.args.words.now) c.in-Err.error
    c.in_ok-app.ensures (map-id c.args.words.now) c.in-Err.ensures.kinds (λ h. c.in_default.not-OutOfMemory (c.kind.ensures ∙ h)))
