-- The columns once that is dead which is to be rebuilt anew, and what begins of a rebuild.
use Rattle.std.proofs.Common.{◌≡◌, ◌⊎◌, inl, inr, ℕ, ◌<◌, List, Bool, true, false, length, Option, Some, None, slice_get, refl, sym, ◌∙◌, ap, subst, rules}
use Rattle.std.specs.Prelude.{◌==◌, ◌&&◌, ◌||◌, not, count_by, slice_set}
use Rattle.std.proofs.lemmas.Bool.{cases_Bool, cases_eq, cond-true, cond-false, or_parts}
use Rattle.std.proofs.lemmas.List.{length-set}
use Rattle.std.proofs.lemmas.Map.Views.{exact_unsigned_eq}
use Rattle.blk_disk.specs.declared.disk.Disk.{Ghosts}
use Rattle.blk_disk.specs.Devices.{RisesOn}
use Rattle.eng_array.specs.Starts.{column_of}
use Rattle.eng_array.specs.declared.start.Start.{Start}
use Rattle.eng_array.specs.declared.start.Start.TheVariants as start
use Rattle.eng_cols.specs.declared.column.Column.{Column}
use Rattle.eng_cols.specs.declared.column.Column.TheVariants as column
use Rattle.eng_cols.specs.Cols.{device_set, is_set_filling, passes, HasDeviceOn}
use Rattle.eng_cols.specs.Deaths.{Dies, LosesDevice}
use Rattle.eng_cols.specs.Fewer.{DieApart}
use Rattle.eng_cols.proofs.DeathLaws.{dies-refl}
use Rattle.eng_cols.proofs.Lists.{get_set_either, get_set_other}
use Rattle.top_close.specs.Dying.{AnyCause}
use Rattle.top_close.proofs.SettledLaws.{set_here}
use Rattle.top_labelled.specs.Begun.{IsAlone, IsAnew, IsColumnWithin, anew_of, is_in_place, without}
use Rattle.top_labelled.specs.Words.{began_of, lives_on}
use Rattle.top_labelled.specs.Ran.{onto}
use Rattle.top_labelled.proofs.Lists.{none-passing}

pub never : {A : Type 0} → true ≡ false → A
never h = absurd (let u : ⊥ = cc in u)

pub not-some : {A X : Type 0} (x : X) → None ≡ Some x → A
not-some x h = absurd (let u : ⊥ = cc in u)

pub some-same : {X : Type 0} (x y : X) → Some x ≡ Some y → x ≡ y
some-same x y h = cc

-- ## Its death

set-dies : (columns : List Column) (c : ℕ) (k : ℕ) → (slice_get (slice_set columns c column.Dead) k ≡ slice_get columns k) ⊎ ((slice_get (slice_set columns c column.Dead) k ≡ Some column.Dead) × (c ≡ k))
set-dies columns c k = elim (cases_eq k c) [
  | inr ne ↦ inl (get_set_other columns c k column.Dead ne)
  | inl e ↦ elim (get_set_either columns c k column.Dead) [ inl written ↦ inr (written, sym e) | inr kept ↦ inl kept ]
]

pub without-dies : (s : Option Start) (columns : List Column) → Dies (IsAnew s) columns (without s columns)
without-dies None columns = dies-refl (IsAnew None) columns
without-dies (Some (start.Fill c d most)) columns = record { count = length-set columns c column.Dead; each = set-dies columns c }
without-dies (Some (start.Resume c most)) columns = dies-refl (IsAnew (Some (start.Resume c most))) columns
without-dies (Some (start.Spread c)) columns = record { count = length-set columns c column.Dead; each = set-dies columns c }

dead-at : (columns : List Column) (k c : ℕ) → k < length columns → k ≡ c → slice_get (slice_set columns k column.Dead) c ≡ Some column.Dead
dead-at columns k c within on = subst (λ j. slice_get (slice_set columns k column.Dead) j ≡ Some column.Dead) on (set_here columns k column.Dead within)

pub without-dead : (s : Option Start) (columns : List Column) (c : ℕ) → IsColumnWithin s (length columns) → IsAnew s c → slice_get (without s columns) c ≡ Some column.Dead
without-dead None columns c within of = absurd of
without-dead (Some (start.Fill k d most)) columns c within of = dead-at columns k c within of
without-dead (Some (start.Resume k most)) columns c within of = absurd of
without-dead (Some (start.Spread k)) columns c within of = dead-at columns k c within of

pub without-other : (s : Option Start) (columns : List Column) (c : ℕ) → (IsAnew s c → ⊥) → slice_get (without s columns) c ≡ slice_get columns c
without-other None columns c not = refl
without-other (Some (start.Fill k d most)) columns c not = get_set_other columns k c column.Dead (λ e. not (sym e))
without-other (Some (start.Resume k most)) columns c not = refl
without-other (Some (start.Spread k)) columns c not = get_set_other columns k c column.Dead (λ e. not (sym e))

number-or-not : (k c : ℕ) → (k ≡ c) ⊎ (k ≡ c → ⊥)
number-or-not k c = elim (cases_eq k c) [ inl e ↦ inl e | inr ne ↦ inr ne ]

-- whether it is its column
pub anew-or-not : (s : Option Start) (c : ℕ) → IsAnew s c ⊎ (IsAnew s c → ⊥)
anew-or-not None c = inr (λ h. h)
anew-or-not (Some (start.Fill k d most)) c = number-or-not k c
anew-or-not (Some (start.Resume k most)) c = inr (λ h. h)
anew-or-not (Some (start.Spread k)) c = number-or-not k c

-- the column of a rebuild anew is that which the rebuild names
pub anew-column : (t : Start) (c : ℕ) → IsAnew (Some t) c → column_of t ≡ c
anew-column (start.Fill k d most) c of = of
anew-column (start.Resume k most) c of = absurd of
anew-column (start.Spread k) c of = of

-- ### By its number

pub anew-within : (s : Option Start) (n c : ℕ) → anew_of s ≡ Some c → IsColumnWithin s n → c < n
anew-within None n c is within = absurd (let z : ⊥ = cc is in z)
anew-within (Some (start.Fill k d most)) n c is within = let e : k ≡ c = cc is in subst (λ i. i < n) e within
anew-within (Some (start.Resume k most)) n c is within = absurd (let z : ⊥ = cc is in z)
anew-within (Some (start.Spread k)) n c is within = let e : k ≡ c = cc is in subst (λ i. i < n) e within

pub anew-alone : (s : Option Start) (columns : List Column) (c : ℕ) → anew_of s ≡ Some c → IsAlone s columns → (k d m : ℕ) → slice_get columns k ≡ Some (column.Filling d m) → k ≡ c
anew-alone None columns c is alone k d m at = absurd (let z : ⊥ = cc is in z)
anew-alone (Some (start.Fill i e most)) columns c is alone k d m at = let same : i ≡ c = cc is in alone k d m at ∙ same
anew-alone (Some (start.Resume i most)) columns c is alone k d m at = absurd (let z : ⊥ = cc is in z)
anew-alone (Some (start.Spread i)) columns c is alone k d m at = let same : i ≡ c = cc is in alone k d m at ∙ same

pub without-anew : (s : Option Start) (columns : List Column) (c : ℕ) → anew_of s ≡ Some c → without s columns ≡ slice_set columns c column.Dead
without-anew None columns c is = absurd (let z : ⊥ = cc is in z)
without-anew (Some (start.Fill k d most)) columns c is = let e : k ≡ c = cc is in ap (λ i. slice_set columns i column.Dead) e
without-anew (Some (start.Resume k most)) columns c is = absurd (let z : ⊥ = cc is in z)
without-anew (Some (start.Spread k)) columns c is = let e : k ≡ c = cc is in ap (λ i. slice_set columns i column.Dead) e

pub without-none : (s : Option Start) (columns : List Column) → anew_of s ≡ None → columns ≡ without s columns
without-none None columns is = refl
without-none (Some (start.Fill k d most)) columns is = absurd (let z : ⊥ = cc is in z)
without-none (Some (start.Resume k most)) columns is = refl
without-none (Some (start.Spread k)) columns is = absurd (let z : ⊥ = cc is in z)

-- ### Beside it none is filling

-- what is so of columns is so of those of which some have died
pub alone-later : (s : Option Start) (cause : ℕ → Type 0) (columns after : List Column) → Dies cause columns after → IsAlone s columns → IsAlone s after
alone-later None cause columns after dies alone = tt
alone-later (Some t) cause columns after dies alone = λ c d m is. elim (dies.each c) [
  | inl same ↦ alone c d m (sym same ∙ is)
  | inr dead ↦ let z : Some column.Dead ≡ Some (column.Filling d m) = sym dead.0 ∙ is in absurd (let u : ⊥ = cc in u)
]

unfilled : (o : Option Column) → ((d m : ℕ) → o ≡ Some (column.Filling d m) → ⊥) → passes is_set_filling o ≡ false
unfilled None not = refl
unfilled (Some (column.Live d)) not = refl
unfilled (Some column.Dead) not = refl
unfilled (Some (column.Filling d m)) not = absurd (not d m refl)
unfilled (Some column.Spread) not = refl

-- where the one that is rebuilt anew is dead none is filling
pub none-beside : (columns : List Column) (c : ℕ) → c < length columns → ((k d m : ℕ) → slice_get columns k ≡ Some (column.Filling d m) → k ≡ c) → count_by is_set_filling (slice_set columns c column.Dead) ≡ 0
none-beside columns c within alone = none-passing is_set_filling (slice_set columns c column.Dead) (λ k. unfilled (slice_get (slice_set columns c column.Dead) k) (filled k))
  where
    filled : (k d m : ℕ) → slice_get (slice_set columns c column.Dead) k ≡ Some (column.Filling d m) → ⊥
    filled k d m is = elim (cases_eq k c) [
      | inl e ↦ let z : Some column.Dead ≡ Some (column.Filling d m) = sym (dead-at columns c k within (sym e)) ∙ is in let u : ⊥ = cc in u
      | inr ne ↦ ne (alone k d m (sym (get_set_other columns c k column.Dead ne) ∙ is))
    ]

-- so its death leaves the stripes of one that is filling what they were
set-apart : (columns : List Column) (c : ℕ) → c < length columns → ((k d m : ℕ) → slice_get columns k ≡ Some (column.Filling d m) → k ≡ c) → DieApart columns (slice_set columns c column.Dead)
set-apart columns c within alone = record {
  each = λ k. elim (set-dies columns c k) [ inl same ↦ inl same | inr dead ↦ inr dead.0 ];
  spread = λ k d m is j. absurd (elim (set-dies columns c k) [
    | inr dead ↦ let z : Some column.Dead ≡ Some (column.Filling d m) = sym dead.0 ∙ is in let u : ⊥ = cc in u
    | inl same ↦
        let z : Some column.Dead ≡ Some (column.Filling d m) = sym (dead-at columns c k within (sym (alone k d m (sym same ∙ is)))) ∙ is in
        let u : ⊥ = cc in u
  ]);
}

same-apart : (columns : List Column) → DieApart columns columns
same-apart columns = record { each = λ k. inl refl; spread = λ k d m is j. refl }

pub without-apart : (s : Option Start) (columns : List Column) → IsColumnWithin s (length columns) → IsAlone s columns → DieApart columns (without s columns)
without-apart None columns within alone = same-apart columns
without-apart (Some (start.Fill c d most)) columns within alone = set-apart columns c within alone
without-apart (Some (start.Resume c most)) columns within alone = same-apart columns
without-apart (Some (start.Spread c)) columns within alone = set-apart columns c within alone

-- deaths of two stages
pub apart-then : (a b e : List Column) → DieApart a b → DieApart b e → DieApart a e
apart-then a b e one two = record {
  each = λ c. elim (two.each c) [ inr dead ↦ inr dead | inl same ↦ elim (one.each c) [ inl too ↦ inl (same ∙ too) | inr dead ↦ inr (same ∙ dead) ] ];
  spread = λ c d m is k. elim (two.each c) [
    | inr dead ↦ let z : Some column.Dead ≡ Some (column.Filling d m) = sym dead ∙ is in absurd (let u : ⊥ = cc in u)
    | inl same ↦ two.spread c d m is k ∙ one.spread c d m (sym same ∙ is) k
  ];
}

-- two lists of which the same column is dead die as they did
pub dies-behind : (columns after : List Column) (c : ℕ) → c < length columns → Dies AnyCause columns after → Dies AnyCause (slice_set columns c column.Dead) (slice_set after c column.Dead)
dies-behind columns after c within dies = record {
  count = length-set after c column.Dead ∙ dies.count ∙ sym (length-set columns c column.Dead);
  each = each;
}
  where
    each : (k : ℕ) → (slice_get (slice_set after c column.Dead) k ≡ slice_get (slice_set columns c column.Dead) k) ⊎ ((slice_get (slice_set after c column.Dead) k ≡ Some column.Dead) × AnyCause k)
    each k = elim (cases_eq k c) [
      | inl e ↦ inr (subst (λ j. slice_get (slice_set after c column.Dead) j ≡ Some column.Dead) (sym e) (set_here after c column.Dead (subst (λ n. c < n) (sym dies.count) within)), tt)
      | inr ne ↦ elim (dies.each k) [
        | inl same ↦ inl (get_set_other after c k column.Dead ne ∙ same ∙ sym (get_set_other columns c k column.Dead ne))
        | inr dead ↦ inr (get_set_other after c k column.Dead ne ∙ dead.0, tt)
      ]
    ]

-- ## What begins

pub began-is : (faulty : Bool) (s : Option Start) (columns begun : List Column) → (began_of faulty s columns begun ≡ None) ⊎ ((began_of faulty s columns begun ≡ s) × (is_in_place s columns && not (is_in_place s begun)) ≡ false)
began-is faulty s columns begun =
    let gone = is_in_place s columns && not (is_in_place s begun) in
    elim (cases_Bool (faulty || gone)) [
      | inl so ↦ inl (cond-true (faulty || gone) None s so)
      | inr not-so ↦ inr (cond-false (faulty || gone) None s not-so, (or_parts faulty gone not-so).1)
    ]

-- what begins is what was asked
pub began-asked : (faulty : Bool) (s : Option Start) (columns begun : List Column) (t : Start) → began_of faulty s columns begun ≡ Some t → s ≡ Some t
began-asked faulty s columns begun t is = elim (began-is faulty s columns begun) [
  | inl none ↦ not-some t (sym none ∙ is)
  | inr same ↦ sym same.0 ∙ is
]

pub began-none : (faulty : Bool) (columns begun : List Column) → began_of faulty None columns begun ≡ None
began-none faulty columns begun = elim (began-is faulty None columns begun) [ inl none ↦ none | inr same ↦ same.0 ]

-- it is anew what was asked anew
pub began-anew : (faulty : Bool) (s : Option Start) (columns begun : List Column) (c : ℕ) → IsAnew (began_of faulty s columns begun) c → IsAnew s c
began-anew faulty s columns begun c of = elim (began-is faulty s columns begun) [
  | inl none ↦ absurd (subst (λ (o : Option Start). IsAnew o c) none of)
  | inr same ↦ subst (λ (o : Option Start). IsAnew o c) same.0 of
]

lives : (o : Option Column) (d : ℕ) → lives_on o d ≡ true → device_set o ≡ Some d
lives None d h = never (sym h)
lives (Some (column.Live e)) d h = ap (λ (n : ℕ). Some n) (exact_unsigned_eq e d h)
lives (Some column.Dead) d h = never (sym h)
lives (Some (column.Filling e m)) d h = ap (λ (n : ℕ). Some n) (exact_unsigned_eq e d h)
lives (Some column.Spread) d h = never (sym h)

same-number : (n : ℕ) → (n == n) ≡ true
same-number n = search rules

lives-there : (o : Option Column) (d : ℕ) → device_set o ≡ Some d → lives_on o d ≡ true
lives-there None d is = not-some d is
lives-there (Some (column.Live e)) d is = let same : e ≡ d = some-same e d is in ap (λ n. e == n) (sym same) ∙ same-number e
lives-there (Some column.Dead) d is = not-some d is
lives-there (Some (column.Filling e m)) d is = let same : e ≡ d = some-same e d is in ap (λ n. e == n) (sym same) ∙ same-number e
lives-there (Some column.Spread) d is = not-some d is

and-parts : (a b : Bool) → (a && not b) ≡ true → (a ≡ true) × (b ≡ false)
and-parts true true h = never (sym h)
and-parts true false h = (refl, refl)
and-parts false b h = never (sym h)

both-not : (a b : Bool) → a ≡ true → (a && not b) ≡ false → b ≡ true
both-not true true one h = refl
both-not true false one h = never h
both-not false b one h = never (sym one)

-- where a rebuild begins onto the column's own device, that lives on
pub still-lives : (faulty : Bool) (s : Option Start) (columns begun : List Column) (c d most : ℕ) → began_of faulty s columns begun ≡ Some (start.Fill c d most) → HasDeviceOn columns c d → HasDeviceOn begun c d
still-lives faulty s columns begun c d most is live = elim (began-is faulty s columns begun) [
  | inl none ↦ not-some (start.Fill c d most) (sym none ∙ is)
  | inr same ↦
      let asked : s ≡ Some (start.Fill c d most) = sym same.0 ∙ is in
      let stays = subst (λ (o : Option Start). (is_in_place o columns && not (is_in_place o begun)) ≡ false) asked same.1 in
      lives (slice_get begun c) d (both-not (lives_on (slice_get columns c) d) (lives_on (slice_get begun c) d) (lives-there (slice_get columns c) d live) stays)
]

-- where one goes on its column is filling still
pub still-filling : (faulty : Bool) (s : Option Start) (columns begun : List Column) (c most : ℕ) → began_of faulty s columns begun ≡ Some (start.Resume c most) → passes is_set_filling (slice_get columns c) ≡ true → passes is_set_filling (slice_get begun c) ≡ true
still-filling faulty s columns begun c most is was = elim (began-is faulty s columns begun) [
  | inl none ↦ not-some (start.Resume c most) (sym none ∙ is)
  | inr same ↦
      let asked : s ≡ Some (start.Resume c most) = sym same.0 ∙ is in
      let stays = subst (λ (o : Option Start). (is_in_place o columns && not (is_in_place o begun)) ≡ false) asked same.1 in
      both-not (passes is_set_filling (slice_get columns c)) (passes is_set_filling (slice_get begun c)) was stays
]

-- a column that is filling has a device
pub filling-at : (o : Option Column) → passes is_set_filling o ≡ true → (d : ℕ) × (m : ℕ) × (o ≡ Some (column.Filling d m))
filling-at None h = never (sym h)
filling-at (Some (column.Live d)) h = never (sym h)
filling-at (Some column.Dead) h = never (sym h)
filling-at (Some (column.Filling d m)) h = (d, m, refl)
filling-at (Some column.Spread) h = never (sym h)

-- The device onto which the rebuild goes was its column's own, and has failed.
module _ {D : Type 0} (g : Ghosts D) (taken opened : List (Option D)) (columns begun : List Column) (dies : Dies (LosesDevice g columns taken opened) columns begun) where
  pub record HasFailedOf (s : Option Start) : Type 0 where
    pub col : ℕ
    pub device : ℕ
    pub asked : onto s columns ≡ Some device
    pub column : (t : Start) → s ≡ Some t → column_of t ≡ col
    pub had : HasDeviceOn columns col device
    pub rose : RisesOn g taken opened device

  fills : (c d most : ℕ) → lives_on (slice_get columns c) d ≡ true → lives_on (slice_get begun c) d ≡ false → HasFailedOf (Some (start.Fill c d most))
  fills c d most was gone =
      let had : HasDeviceOn columns c d = lives (slice_get columns c) d was in
      elim (dies.each c) [
        | inl same ↦ never (sym (lives-there (slice_get begun c) d (ap device_set same ∙ had)) ∙ gone)
        | inr dead ↦
            let e : dead.1.device ≡ d = some-same dead.1.device d (sym dead.1.had ∙ had) in
            record {
              col = c;
              device = d;
              asked = refl;
              column = λ t is. ap column_of (some-same t (start.Fill c d most) (sym is));
              had = had;
              rose = subst (λ n. RisesOn g taken opened n) e dead.1.rose;
            }
      ]

  goes-on : (c most : ℕ) → passes is_set_filling (slice_get columns c) ≡ true → passes is_set_filling (slice_get begun c) ≡ false → HasFailedOf (Some (start.Resume c most))
  goes-on c most was gone = elim (dies.each c) [
    | inl same ↦ never (sym (ap (passes is_set_filling) same ∙ was) ∙ gone)
    | inr dead ↦ record {
      col = c;
      device = dead.1.device;
      asked = dead.1.had;
      column = λ t is. ap column_of (some-same t (start.Resume c most) (sym is));
      had = dead.1.had;
      rose = dead.1.rose;
    }
  ]

  -- where none begins that was asked, its device had failed
  pub why-unbegun : (faulty : Bool) (s : Option Start) → began_of faulty s columns begun ≡ None → (s ≡ None) ⊎ ((faulty ≡ true) ⊎ HasFailedOf s)
  why-unbegun true s is = inr (inl refl)
  why-unbegun false None is = inl refl
  why-unbegun false (Some (start.Spread c)) is = not-some (start.Spread c) (sym is)
  why-unbegun false (Some (start.Fill c d most)) is = elim (cases_Bool (lives_on (slice_get columns c) d && not (lives_on (slice_get begun c) d))) [
    | inr not-so ↦ not-some (start.Fill c d most) (sym is ∙ cond-false (lives_on (slice_get columns c) d && not (lives_on (slice_get begun c) d)) None (Some (start.Fill c d most)) not-so)
    | inl so ↦ let parts = and-parts (lives_on (slice_get columns c) d) (lives_on (slice_get begun c) d) so in inr (inr (fills c d most parts.0 parts.1))
  ]
  why-unbegun false (Some (start.Resume c most)) is = elim (cases_Bool (passes is_set_filling (slice_get columns c) && not (passes is_set_filling (slice_get begun c)))) [
    | inr not-so ↦ not-some (start.Resume c most) (sym is ∙ cond-false (passes is_set_filling (slice_get columns c) && not (passes is_set_filling (slice_get begun c))) None (Some (start.Resume c most)) not-so)
    | inl so ↦ let parts = and-parts (passes is_set_filling (slice_get columns c)) (passes is_set_filling (slice_get begun c)) so in inr (inr (goes-on c most parts.0 parts.1))
  ]
