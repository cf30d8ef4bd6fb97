-- A run of an ordered graph in which nothing fails goes on until it has ended.
use Rattle.std.proofs.Common.{◌≡◌, ◌≢◌, ℕ, zero, suc, ◌<◌, ◌≤◌, ◌⊎◌, inl, inr, List, [], ◌∷◌, All, refl, sym, ap, ◌∙◌, subst, arith, length}
use Rattle.std.proofs.lemmas.Bool.{cases_eq}
use Rattle.std.proofs.lemmas.List.Elements.{All-head, All-tail}
use Rattle.graph_mean.specs.declared.graph.Node.{Node}
use Rattle.graph_mean.specs.declared.graph.Node.TheVariants.{Rd, Wr, Xor, Cmt, Trm}
use Rattle.graph_mean.specs.declared.step.Status.{Status}
use Rattle.graph_mean.specs.declared.step.Status.TheVariants.{Idle, Out, Good, Bad, Skipped}
use Rattle.graph_mean.specs.declared.step.Phase.{Phase}
use Rattle.graph_mean.specs.declared.step.Phase.TheVariants.{Before, After, RollingBack, Ended, Undone}
use Rattle.graph_mean.specs.Graph.{View, kind_at}
use Rattle.graph_mean.specs.Task.{Aim, Missing}
use Rattle.graph_mean.specs.Steps.{State, Act, Fire, Do, Fail, Skip, Lose, HasEnded, IsRunning, IsReady, Fires, Does, Run, settled, phase_after}
use Rattle.graph_mean.specs.Atomic.{IsLate}
use Rattle.graph_mean.specs.Ordered.{IsOrdered}
use Rattle.graph_mean.proofs.Marks.{Marks, AntesEnded, antes-kept, mark-here, mark-other, chain-ended}
use Rattle.graph_mean.proofs.Invariant.{idle-not_ended, out-not_ended}
use Rattle.eng_one.specs.Alone.{IsGoodAct, RunsWell, GoesOn}

-- the node hasn't failed and wasn't skipped
abbrev IsFair : Status → Type 0
IsFair Idle = Unit {0}
IsFair Out = Unit {0}
IsFair Good = Unit {0}
IsFair Bad = ⊥
IsFair Skipped = ⊥

-- commit's and terminator's marks in each phase
abbrev AreAt : Phase → Status → Status → Type 0
AreAt Before c e = (HasEnded c → ⊥) × (HasEnded e → ⊥)
AreAt After c e = HasEnded c × (HasEnded e → ⊥)
AreAt RollingBack c e = ⊥
AreAt Ended c e = HasEnded c × HasEnded e
AreAt Undone c e = ⊥

pub record IsFairRun (g : View) (c e : ℕ) (x : State) : Type 0 where
  pub antes : AntesEnded g x
  pub fair : (n : ℕ) → IsFair (x.node n)
  pub at : AreAt x.phase (x.node c) (x.node e)

idle-fair : (s : Status) → s ≡ Idle → IsFair s
idle-fair s h = subst IsFair (sym h) tt

-- how far the run has come, by who has ended
at-kept : (p : Phase) (c e d f : Status) → (HasEnded c → HasEnded d) → (HasEnded d → HasEnded c) → (HasEnded e → HasEnded f) → (HasEnded f → HasEnded e) → AreAt p c e → AreAt p d f
at-kept Before c e d f a b k l h = (λ z. h.0 (b z), λ z. h.1 (l z))
at-kept After c e d f a b k l h = (a h.0, λ z. h.1 (l z))
at-kept RollingBack c e d f a b k l h = h
at-kept Ended c e d f a b k l h = (a h.0, k h.1)
at-kept Undone c e d f a b k l h = h

module _ (g : View) (t : Aim) (missing : Missing) (c e : ℕ) (ok : IsOrdered g t missing c e) where
  commit-not_end : c ≢ e
  commit-not_end is = let z : Cmt ≡ Trm = sym ok.commit.here ∙ (ap (kind_at g) is ∙ ok.end.here) in cc

  begun-fair : (x : State) → ((n : ℕ) → x.node n ≡ Idle) → x.phase ≡ Before → IsFairRun g c e x
  begun-fair x idle phase = record {
    antes = λ n a h i. absurd (h (idle n));
    fair = λ n. idle-fair (x.node n) (idle n);
    at = subst (λ (p : Phase). AreAt p (x.node c) (x.node e)) (sym phase) (idle-not_ended (x.node c) (idle c), idle-not_ended (x.node e) (idle e));
  }

  -- who has ended is the same but for one node
  module _ (x y : State) (n : ℕ) (to : Status) (m : Marks x n to y) where
    mark-fair : IsFair to → ((k : ℕ) → IsFair (x.node k)) → (k : ℕ) → IsFair (y.node k)
    mark-fair new old k = elim (cases_eq k n) [
      | inl is ↦ subst IsFair (sym (ap y.node is ∙ mark-here x n to y m)) new
      | inr apart ↦ subst IsFair (sym (mark-other x n to y m k apart)) (old k)
    ]

    stays : (k : ℕ) → HasEnded (x.node k) → HasEnded (y.node k)
    stays k h = elim (cases_eq k n) [
      | inl is ↦ absurd (m.was (subst (λ (j : ℕ). HasEnded (x.node j)) is h))
      | inr apart ↦ subst HasEnded (sym (mark-other x n to y m k apart)) h
    ]

    came : (k : ℕ) → k ≢ n → HasEnded (y.node k) → HasEnded (x.node k)
    came k apart h = subst HasEnded (mark-other x n to y m k apart) h

    came-out : (HasEnded to → ⊥) → (k : ℕ) → HasEnded (y.node k) → HasEnded (x.node k)
    came-out un k h = elim (cases_eq k n) [
      | inl is ↦ absurd (un (subst HasEnded (ap y.node is ∙ mark-here x n to y m) h))
      | inr apart ↦ came k apart h
    ]

  fire-fair : (x y : State) (n : ℕ) → IsFairRun g c e x → Fires g x n y → IsFairRun g c e y
  fire-fair x y n w f =
      let m : Marks x n Out y = record { was = idle-not_ended (x.node n) f.ready.idle; node = f.node } in
      record {
        antes = antes-kept x n Out y m g w.antes f.ready.antes;
        fair = mark-fair x y n Out m tt w.fair;
        at = subst (λ (p : Phase). AreAt p (y.node c) (y.node e)) (sym f.phase) (at-kept x.phase (x.node c) (x.node e) (y.node c) (y.node e) (stays x y n Out m c) (came-out x y n Out m (λ h. h) c) (stays x y n Out m e) (came-out x y n Out m (λ h. h) e) w.at);
      }

  -- how far the run is after a node's good end that isn't the commit's or the terminator's
  plain-at : (p : Phase) (x y : State) (n : ℕ) → n ≢ c → n ≢ e → Marks x n Good y → AreAt p (x.node c) (x.node e) → AreAt (settled g y.node p) (y.node c) (y.node e)
  plain-at p x y n nc ne m h = by-phase p (at-kept p (x.node c) (x.node e) (y.node c) (y.node e) (stays x y n Good m c) (came x y n Good m c (λ is. nc (sym is))) (stays x y n Good m e) (came x y n Good m e (λ is. ne (sym is))) h)
    where
      by-phase : (q : Phase) → AreAt q (y.node c) (y.node e) → AreAt (settled g y.node q) (y.node c) (y.node e)
      by-phase Before a = a
      by-phase After a = a
      by-phase RollingBack a = absurd a
      by-phase Ended a = a
      by-phase Undone a = absurd a

  here-ended : (x y : State) (n k : ℕ) → k ≡ n → Marks x n Good y → HasEnded (y.node k)
  here-ended x y n k is m = subst HasEnded (sym (ap y.node is ∙ mark-here x n Good y m)) tt

  -- the terminator hasn't ended where some node it follows hasn't
  end-waits : (x : State) (n : ℕ) → n < length g.nodes → n ≢ e → AntesEnded g x → (HasEnded (x.node n) → ⊥) → HasEnded (x.node e) → ⊥
  end-waits x n l apart antes un h = un (chain-ended g x antes (suc (ok.end.follows n l apart).0) e n h (ok.end.follows n l apart).1)

  do-at : (k : Node) (x y : State) (n : ℕ) → kind_at g n ≡ k → n < length g.nodes → Marks x n Good y → IsFairRun g c e x → AntesEnded g y → AreAt (settled g y.node (phase_after k x.phase)) (y.node c) (y.node e)
  do-at (Rd unit buf) x y n is l m w a = plain-at x.phase x y n (λ q. let z : Rd unit buf ≡ Cmt = sym is ∙ (ap (kind_at g) q ∙ ok.commit.here) in cc) (λ q. let z : Rd unit buf ≡ Trm = sym is ∙ (ap (kind_at g) q ∙ ok.end.here) in cc) m w.at
  do-at (Wr unit buf) x y n is l m w a = plain-at x.phase x y n (λ q. let z : Wr unit buf ≡ Cmt = sym is ∙ (ap (kind_at g) q ∙ ok.commit.here) in cc) (λ q. let z : Wr unit buf ≡ Trm = sym is ∙ (ap (kind_at g) q ∙ ok.end.here) in cc) m w.at
  do-at (Xor to) x y n is l m w a = plain-at x.phase x y n (λ q. let z : Xor to ≡ Cmt = sym is ∙ (ap (kind_at g) q ∙ ok.commit.here) in cc) (λ q. let z : Xor to ≡ Trm = sym is ∙ (ap (kind_at g) q ∙ ok.end.here) in cc) m w.at
  do-at Cmt x y n is l m w a =
      let nc : n ≡ c = ok.commit.only n l is in
      let ne : n ≢ e = λ q. let z : Cmt ≡ Trm = sym is ∙ (ap (kind_at g) q ∙ ok.end.here) in cc in
      (here-ended x y n c (sym nc) m, λ h. end-waits x n l ne w.antes m.was (came x y n Good m e (λ q. ne (sym q)) h))
  do-at Trm x y n is l m w a =
      let ne : n ≡ e = ok.end.only n l is in
      let h : HasEnded (y.node e) = here-ended x y n e (sym ne) m in
      let f = ok.end.follows c ok.commit.below commit-not_end in
      (chain-ended g y a (suc f.0) e c h f.1, h)

  do-fair : (x y : State) (n : ℕ) → IsFairRun g c e x → Does g x n y → IsFairRun g c e y
  do-fair x y n w f =
      let m : Marks x n Good y = record { was = out-not_ended (x.node n) f.out; node = f.node } in
      let antes : AntesEnded g y = antes-kept x n Good y m g w.antes (λ a i. w.antes n a (λ q. let z : Out ≡ Idle = sym f.out ∙ q in cc) i) in
      record {
        antes = antes;
        fair = mark-fair x y n Good m tt w.fair;
        at = subst (λ (p : Phase). AreAt p (y.node c) (y.node e)) (sym f.phase) (do-at (kind_at g n) x y n refl f.below m w antes);
      }

  -- wherever a run stands in which nothing has failed
  run-fair : (x : State) (acts : List Act) (y : State) → IsFairRun g c e x → Run g x acts y → All IsGoodAct acts → IsFairRun g c e y
  run-fair x [] y w r good = subst (λ (z : State). IsFairRun g c e z) (sym r) w
  run-fair x (Fire n ∷ acts) y w r good = fire-fair r.0 y n (run-fair x acts r.0 w r.1 (All-tail IsGoodAct (Fire n) acts good)) r.2
  run-fair x (Do n ∷ acts) y w r good = do-fair r.0 y n (run-fair x acts r.0 w r.1 (All-tail IsGoodAct (Do n) acts good)) r.2
  run-fair x (Fail n lost ∷ acts) y w r good = absurd (All-head IsGoodAct (Fail n lost) acts good)
  run-fair x (Skip n ∷ acts) y w r good = absurd (All-head IsGoodAct (Skip n) acts good)
  run-fair x (Lose lost ∷ acts) y w r good = absurd (All-head IsGoodAct (Lose lost) acts good)

  pub well-fair : (x : State) (acts : List Act) (y : State) → RunsWell g x acts y → IsFairRun g c e y
  well-fair x acts y r = run-fair x acts y (begun-fair x r.idle r.phase) r.run r.good

  -- ---- what can be fired

  over-or-running : (p : Phase) (d f : Status) → AreAt p d f → (p ≡ Ended) ⊎ IsRunning p
  over-or-running Before d f h = inr tt
  over-or-running After d f h = inr tt
  over-or-running RollingBack d f h = absurd h
  over-or-running Ended d f h = inl refl
  over-or-running Undone d f h = absurd h

  ended-over : (p : Phase) (d f : Status) → AreAt p d f → HasEnded f → p ≡ Ended
  ended-over Before d f h l = absurd (h.1 l)
  ended-over After d f h l = absurd (h.1 l)
  ended-over RollingBack d f h l = absurd h
  ended-over Ended d f h l = refl
  ended-over Undone d f h l = absurd h

  module _ (x : State) (w : IsFairRun g c e x) where
    abbrev AllEnded : ℕ → Type 0
    AllEnded m = (n : ℕ) → n < m → HasEnded (x.node n)

    more-ended : (m : ℕ) → AllEnded m → HasEnded (x.node m) → AllEnded (suc m)
    more-ended m all h n l = elim (cases_eq n m) [
      | inl is ↦ subst (λ (j : ℕ). HasEnded (x.node j)) (sym is) h
      | inr apart ↦ all n (omega (arith, apart, l))
    ]

    -- the first node that hasn't ended can be fired, or is out
    next : (m : ℕ) → m < length g.nodes → AllEnded m → IsRunning x.phase → (s : Status) → x.node m ≡ s → IsFair s → HasEnded s ⊎ GoesOn g x
    next m l all run Idle is fair = inr (m, inl (record { below = l; idle = is; antes = λ a i. all a (ok.order m a i); running = run }))
    next m l all run Out is fair = inr (m, inr (l, is))
    next m l all run Good is fair = inl tt
    next m l all run Bad is fair = absurd fair
    next m l all run Skipped is fair = absurd fair

    some-next : (m : ℕ) → m ≤ length g.nodes → IsRunning x.phase → AllEnded m ⊎ GoesOn g x
    some-next zero l run = inl (λ n h. absurd (omega arith))
    some-next (suc m) l run = elim (some-next m (omega arith) run) [
      | inr on ↦ inr on
      | inl all ↦ elim (next m (omega arith) all run (x.node m) refl (w.fair m)) [
        | inl h ↦ inl (more-ended m all h)
        | inr on ↦ inr on
      ]
    ]

    pub goes-on : (x.phase ≡ Ended) ⊎ GoesOn g x
    goes-on = elim (over-or-running x.phase (x.node c) (x.node e) w.at) [
      | inl over ↦ inl over
      | inr run ↦ elim (some-next (length g.nodes) (omega arith) run) [
        | inl all ↦ inl (ended-over x.phase (x.node c) (x.node e) w.at (all e ok.end.below))
        | inr on ↦ inr on
      ]
    ]

    -- a node that was fired and isn't out has finished good
    pub fired-good : (n : ℕ) → (x.node n ≡ Out → ⊥) → x.node n ≢ Idle → x.node n ≡ Good
    fired-good n out idle = by-status (x.node n) (w.fair n) out idle
      where
        by-status : (s : Status) → IsFair s → (s ≡ Out → ⊥) → s ≢ Idle → s ≡ Good
        by-status Idle f o i = absurd (i refl)
        by-status Out f o i = absurd (o refl)
        by-status Good f o i = refl
        by-status Bad f o i = absurd f
        by-status Skipped f o i = absurd f

    pub early-or-late : (x.phase ≡ Before) ⊎ IsLate x.phase
    early-or-late = by-phase x.phase (x.node c) (x.node e) w.at
      where
        by-phase : (p : Phase) (d f : Status) → AreAt p d f → (p ≡ Before) ⊎ IsLate p
        by-phase Before d f h = inl refl
        by-phase After d f h = inr tt
        by-phase RollingBack d f h = absurd h
        by-phase Ended d f h = inr tt
        by-phase Undone d f h = absurd h

    -- a read that can be fired comes before the commit, a write after it
    before-commit : (p : Phase) (d f : Status) → AreAt p d f → (HasEnded d → ⊥) → p ≡ Before
    before-commit Before d f h un = refl
    before-commit After d f h un = absurd (un h.0)
    before-commit RollingBack d f h un = absurd h
    before-commit Ended d f h un = absurd (un h.0)
    before-commit Undone d f h un = absurd h

    after-commit : (p : Phase) (d f : Status) → AreAt p d f → IsRunning p → HasEnded d → p ≡ After
    after-commit Before d f h run l = absurd (h.0 l)
    after-commit After d f h run l = refl
    after-commit RollingBack d f h run l = absurd h
    after-commit Ended d f h run l = absurd run
    after-commit Undone d f h run l = absurd h

    pub read-before : (n i b : ℕ) → IsReady g x.node x.phase n → kind_at g n ≡ Rd i b → x.phase ≡ Before
    read-before n i b ready is =
        let f = (ok.read n i b ready.below is).2 in
        before-commit x.phase (x.node c) (x.node e) w.at (λ h. idle-not_ended (x.node n) ready.idle (chain-ended g x w.antes (suc f.0) c n h f.1))

    pub write-after : (n i b : ℕ) → IsReady g x.node x.phase n → kind_at g n ≡ Wr i b → x.phase ≡ After
    write-after n i b ready is =
        let f = (ok.write n i b ready.below is).2 in
        after-commit x.phase (x.node c) (x.node e) w.at ready.running (chain-ended g x w.antes f.0 f.1.0 c (ready.antes f.1.0 f.1.1) f.1.2)
