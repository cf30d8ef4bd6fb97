use Rattle.std.proofs.Common.{◌≡◌, ◌<◌, subst, sym}
use Rattle.std.specs.Prelude.{Some, length, slice_get}
use Rattle.top_words.specs.Asked.{Profile}
use Rattle.top_bay.specs.Asked.{names_with}
use Rattle.top_bay.proofs.names.name_for.Goals as goal

pub name_with-requires-clause-within : goal.name_with-requires-clause-within
name_with-requires-clause-within c = subst (λ (p : Profile). c.args.k < length (names_with c.args.conf.now p.kind p.component)) (sym c.profile-profile.ensures) c.requires.within

pub returns : goal.returns
returns c = subst (λ (p : Profile). slice_get (names_with c.args.conf.now p.kind p.component) c.args.k ≡ Some c.name_with.result.now) c.profile-profile.ensures c.name_with.ensures
