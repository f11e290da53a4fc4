-- Machines that differ in one part.
use Rattle.std.proofs.Common.{◌≡◌, ℕ, ◌+◌, ◌-◌, ◌<◌, ◌≤◌, List, ◌++◌, length, take, drop, Err, Result, sym, refl, ap, ap₂, ◌∙◌, subst, arith, length-drop}
use borrow.Rule.Slice.PartMut.{put_mid}
use Rattle.std.specs.List.{between}
use Rattle.std.proofs.lemmas.List.{take-append-drop, take_all}
use Rattle.std.proofs.lemmas.Bool.{cond-true, cond-false, le-leb, lt-leb}
use Rattle.processor.specs.declared.ending.Ending.TheVariants.{Sector}
use Rattle.processor.specs.Machine.{Processor, Action, ends, writes}
use Rattle.processor.specs.Effects.{missing, unless}
use Rattle.processor.specs.Words.{overwritten}
use Rattle.processor.proofs.Memory.{put_is}
use Rattle.disk.specs.declared.WriteRefusal.{WriteRefusal}
use Rattle.disk.specs.declared.WriteRefusal.TheVariants as refusal
use Rattle.disk.specs.Disks.{Disk, Written, Writes}
use Rattle.console.specs.Consoles.{Console, Kind}
use Rattle.station.specs.declared.attempt.Executed.{Executed}
use Rattle.station.specs.declared.attempt.Obstacle.{Obstacle}
use Rattle.station.specs.Machines.{Machine, Tries, no_keep, obstacle}

pub same_processor : (ws ws' ms ms' : List ℕ) → ws ≡ ws' → ms ≡ ms' → ◌≡◌ {A = Processor} (record { registers = ws; memory = ms }) (record { registers = ws'; memory = ms' })
same_processor ws ws' ms ms' p q = cc

pub same_machine : (p p' : Processor) (d d' : Disk) (k k' : Console) → p ≡ p' → d ≡ d' → k ≡ k' → ◌≡◌ {A = Machine} (record { processor = p; disk = d; console = k }) (record { processor = p'; disk = d'; console = k' })
same_machine p p' d d' k k' a b c = cc

-- a sector that there is, and one that there is not
pub there : (ss : List (List ℕ)) (sector : ℕ) (act : Action) → sector < length ss → unless (missing sector ss) Sector act ≡ act
there ss sector act lt = cond-false (missing sector ss) _ _ (lt-leb (length ss) sector lt)

pub not_there : (ss : List (List ℕ)) (sector : ℕ) (act : Action) → length ss ≤ sector → unless (missing sector ss) Sector act ≡ ends Sector
not_there ss sector act le = cond-true (missing sector ss) _ _ (le-leb (length ss) sector le)

-- a refused write, by the case of its refusal
pub unwritten : (kind : Kind) (p q : Processor) (d d' : Disk) (k : Console) (sector : ℕ) (block : List ℕ) (refusal : WriteRefusal)
    → Writes d sector block (Err refusal) d'
    → Tries kind (unless (missing sector d.sectors) Sector (writes sector block q)) (record { processor = p; disk = d; console = k }) (Err (obstacle refusal)) (record { processor = p; disk = d'; console = k })
unwritten kind p q d d' k sector block refusal.NoSuchSector h = (not_there _ _ _ h.0, same_machine _ _ _ _ _ _ refl h.1 refl)
unwritten kind p q d d' k sector block refusal.NoKeep h = (no_keep (there _ _ _ h.0) h.1, same_machine _ _ _ _ _ _ refl h.2 refl)

pub of_block : (d d' : Disk) (sector : ℕ) (block block' : List ℕ) → block ≡ block' → Written d sector block d' → Written d sector block' d'
of_block d d' sector block block' is w = subst (λ (x : List ℕ). Written d sector x d') is w

-- the first 512 bytes behind a place
pub first_bytes : (memory block : List ℕ) (at : ℕ) → block ≡ take 512 (take (length memory - at) (drop at memory)) → block ≡ between at (at + 512) memory
first_bytes memory block at is =
    let width : 512 ≡ at + 512 - at = omega arith in
    is
    ∙ ap (take 512) (take_all (length memory - at) (drop at memory) (omega (arith, length-drop at memory)))
    ∙ ap (λ n. take n (drop at memory)) width

-- memory of which the 512 bytes behind a place were lent
pub lent : (memory front rest new : List ℕ) (at : ℕ) → front ≡ take at memory → rest ≡ drop at memory → front ++ (new ++ drop 512 rest) ≡ put_mid at 512 memory new
lent memory front rest new at f r = ap₂ ◌++◌ f (ap (λ l. new ++ drop 512 l) r)

-- the same, where they are new now
pub lent_new : (memory front rest new block : List ℕ) (at : ℕ) → front ≡ take at memory → rest ≡ drop at memory → new ≡ block → front ++ (new ++ drop 512 rest) ≡ overwritten at 512 block memory
lent_new memory front rest new block at f r is =
    let width : 512 ≡ at + 512 - at = omega arith in
    lent memory front rest new at f r ∙ ap (λ n. put_mid at n memory new) width ∙ put_is memory new block at 512 is

-- memory whose lent part came back as it was
pub lent_back : (memory new : List ℕ) (at width : ℕ) → new ≡ take width (drop at memory) → put_mid at width memory new ≡ memory
lent_back memory new at width is =
    ap (λ l. take at memory ++ (l ++ drop width (drop at memory))) is
    ∙ ap (λ l. take at memory ++ l) (take-append-drop width (drop at memory))
    ∙ take-append-drop at memory

-- an attempt at what an action asks is one at any action that is equal
pub tried : (kind : Kind) (act act' : Action) (m m' : Machine) (trial : Result Executed Obstacle) → act ≡ act' → Tries kind act' m trial m' → Tries kind act m trial m'
tried kind act act' m m' trial is t = subst (λ (x : Action). Tries kind x m trial m') (sym is) t
