-- What a job has done.
use Rattle.std.specs.Prelude.{◌≡◌, ℕ, ◌+◌, ◌*◌, ◌<◌, ◌≤◌, List, [], ◌∷◌, drop, length, slice_index, bit_xor, All, Bool, true, false, if◌then◌else◌}
use Rattle.blk_plain.specs.declared.op.Outcome.{Outcome}
use Rattle.blk_plain.specs.declared.op.Outcome.TheVariants.{Good, Bad}
use Rattle.blk_disk.specs.Disk.{sector_at, Rose, Tells}
use Rattle.blk_disk.specs.declared.disk.Disk.{Ghosts}
use Rattle.eng_job.specs.declared.job.Source.{Source}
use Rattle.eng_job.specs.declared.job.Work.{Work}
use Rattle.eng_job.specs.declared.job.Work.TheVariants.{Nothing, Read, Write, Sum}
use Rattle.eng_job.specs.declared.job.Job.{Job}

-- ## Sums

-- byte k of a source, or 0 where it doesn't count
abbrev pub byte_at : Source → ℕ → ℕ
byte_at s k = if s.counts then slice_index s.buffer k else 0

-- the sum of byte k of the sources
abbrev pub sum_at : List Source → ℕ → ℕ
sum_at [] k = 0
sum_at (s ∷ ss) k = bit_xor (byte_at s k) (sum_at ss k)

-- each source has so many sectors
abbrev pub AreLong : ℕ → List Source → Type 0
AreLong count from = All (λ (s : Source). 512 * count ≤ length s.buffer) from

-- The front of the target holds the sum, where all buffers have so many sectors, and else the target is as it was. Nothing can refuse it.
pub record Sums (to now : List ℕ) (from : List Source) (count : ℕ) (outcome : Outcome) : Type 0 where
  pub good : outcome ≡ Good
  pub long : length now ≡ length to
  pub bytes : 512 * count ≤ length to → AreLong count from → (k : ℕ) → k < 512 * count → slice_index now k ≡ sum_at from k
  pub rest : drop (512 * count) now ≡ drop (512 * count) to
  pub nothing : (512 * count ≤ length to → AreLong count from → ⊥) → now ≡ to

-- ## Calls

-- the device answered Ok
abbrev pub is_ok_of : Outcome → Bool
is_ok_of Good = true
is_ok_of Bad = false

module _ {D : Type 0} (disk : Ghosts D) where
  -- the sectors lie on the device and in the buffer
  pub record HasRoom (d : D) (first : ℕ) (buffer : List ℕ) (count : ℕ) : Type 0 where
    pub on_disk : first + count ≤ disk.size d
    pub in_buffer : 512 * count ≤ length buffer

  -- one call, of this kind and on these sectors: the device refused it only where its count rose, and told it where it tells its calls
  pub record Calls (d e : D) (kind first count : ℕ) (outcome : Outcome) : Type 0 where
    pub size : disk.size e ≡ disk.size d
    pub later : disk.faults d ≤ disk.faults e
    pub cause : outcome ≡ Bad → Rose (disk.faults d) (disk.faults e)
    pub told : Tells (disk.calls d) (disk.calls e) (record { kind = kind; first = first; count = count; good = is_ok_of outcome })

  -- a read of sectors that lie there: no sector changed, and a good one filled the front of the buffer; what is behind stays
  pub record ReadsThere (d e : D) (first : ℕ) (buffer now : List ℕ) (count : ℕ) (outcome : Outcome) : Type 0 where
    pub calls : Calls d e 0 first count outcome
    pub same : disk.tells → (s : ℕ) → disk.sector e s ≡ disk.sector d s
    pub long : length now ≡ length buffer
    pub bytes : outcome ≡ Good → disk.tells → (k : ℕ) → k < count → sector_at now k ≡ disk.sector d (first + k)
    pub rest : drop (512 * count) now ≡ drop (512 * count) buffer

  -- a write of sectors that lie there: all others are as they were, and after a good one these are the buffer's
  pub record WritesThere (d e : D) (first : ℕ) (buffer : List ℕ) (count : ℕ) (outcome : Outcome) : Type 0 where
    pub calls : Calls d e 1 first count outcome
    pub before : disk.tells → (s : ℕ) → s < first → disk.sector e s ≡ disk.sector d s
    pub behind : disk.tells → (s : ℕ) → first + count ≤ s → disk.sector e s ≡ disk.sector d s
    pub bytes : outcome ≡ Good → disk.tells → (k : ℕ) → k < count → disk.sector e (first + k) ≡ sector_at buffer k

  -- a read, wherever its sectors lie: where they don't lie there nothing was done, and a refusal has its cause
  pub record Reads (d e : D) (first : ℕ) (buffer now : List ℕ) (count : ℕ) (outcome : Outcome) : Type 0 where
    pub there : HasRoom d first buffer count → ReadsThere d e first buffer now count outcome
    pub nothing : (HasRoom d first buffer count → ⊥) → (outcome ≡ Good) × (e ≡ d) × (now ≡ buffer)
    pub cause : outcome ≡ Bad → Rose (disk.faults d) (disk.faults e)

  -- and so a write
  pub record Writes (d e : D) (first : ℕ) (buffer : List ℕ) (count : ℕ) (outcome : Outcome) : Type 0 where
    pub there : HasRoom d first buffer count → WritesThere d e first buffer count outcome
    pub nothing : (HasRoom d first buffer count → ⊥) → (outcome ≡ Good) × (e ≡ d)
    pub cause : outcome ≡ Bad → Rose (disk.faults d) (disk.faults e)

  -- ## Jobs

  -- one call, one sum, or nothing: the work as it is afterwards has the same device, buffers and sectors, and what became of them
  abbrev pub PerformedWork : List Source → Work D → Work D → Outcome → Type 0
  PerformedWork from Nothing w outcome = (w ≡ Nothing) × (outcome ≡ Good)
  PerformedWork from (Read d first buffer count) w outcome = (e : D) × (now : List ℕ) × (w ≡ Read e first now count) × Reads d e first buffer now count outcome
  PerformedWork from (Write d first buffer count) w outcome = (e : D) × (w ≡ Write e first buffer count) × Writes d e first buffer count outcome
  PerformedWork from (Sum to count) w outcome = (now : List ℕ) × (w ≡ Sum now count) × Sums to now from count outcome

  -- the job was performed, with this outcome
  pub record Performed (before after : Job D) (outcome : Outcome) : Type 0 where
    pub client : after.client ≡ before.client
    pub node : after.node ≡ before.node
    pub sources : after.sources ≡ before.sources
    pub work : PerformedWork before.sources.items before.work after.work outcome
