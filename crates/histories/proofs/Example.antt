-- The example history, call by call.
use Rattle.std.proofs.Common.{◌≡◌, ℕ, List, [], ◌∷◌, length, replicate, Ok, Err, refl, inl, inr, arith, lit<, lit≤}
use lib.ListN.{length-replicate}
use Rattle.u5.specs.Words.{register, decoded}
use Rattle.text.specs.declared.fault.Cause.TheVariants.{Spelling}
use Rattle.text.specs.declared.fault.Fault.{Fault}
use Rattle.text.specs.Numerals.{spelled}
use Rattle.text.specs.Pieces.{pieces}
use Rattle.processor.specs.declared.ending.Ending.TheVariants.{Halt}
use Rattle.processor.specs.declared.ending.Want.TheVariants.{Input}
use Rattle.processor.specs.Names.{every_ending}
use Rattle.processor.specs.Effects.{action, gets, moved}
use Rattle.console.specs.Queues.{none_offered, one_offered, none_pulled, one_pulled}
use Rattle.sheet.specs.Lines.{marks}
use Rattle.sheet.specs.declared.mark.Mark.{Mark}
use Rattle.sheet.specs.declared.mark.Mark.TheVariants.{Word, Byte, Ends}
use Rattle.sheet.specs.Grammar.{Tell, no_lines, one_line}
use Rattle.sheet.specs.Marks.{Earn, all_points, no_points, no_marks, one_mark}
use Rattle.station.specs.declared.answer.Stop.TheVariants as stop
use Rattle.station.specs.declared.answer.StartRefusal.TheVariants as start
use Rattle.station.specs.declared.answer.RunRefusal.TheVariants as run
use Rattle.station.specs.declared.answer.TallyRefusal.TheVariants as tally
use Rattle.station.specs.declared.unit.Phase.TheVariants.{Running, Ended}
use Rattle.station.specs.Machines.{took, printed, no_step, one_step, in_want, at_halt, no_input}
use Rattle.station.specs.Worlds.{processor_of, sectors_of, Starts, Runs, Feeds, Collects, Tallies, goes_on, has_ended}
use Rattle.station.specs.Histories.{with_memory, started, ran, fed_bytes, collected_bytes, tallied, start_refused, run_refused, tally_refused}
use Rattle.histories.specs.Examples.{kind, console, at, begun, taken, found, after_start, after_feed, after_halt, after_collection, sheet, Example}

starts : Starts found (Ok tt) after_start
starts = record {
  allowed = record { whole_sectors = refl; one_at_least = lit≤ tt; at_most = lit≤ tt };
  all_collected = refl;
  has_sector = lit< tt;
  registers_zero = refl;
  loaded = refl;
  disk_same = refl;
  console_same = refl;
  now_running = refl;
}

-- nothing waits: a run of five steps executes none, and wants input
waits : Runs kind after_start 5 (Ok (record { count = 0; stop = stop.Wants Input })) after_start
unfolding action decoded
waits = goes_on refl (in_want (lit< tt) no_step (no_input {p = λ byte. gets (register 1) byte (moved begun)} refl refl)) refl

-- a memory of no bytes is not the started one, and none to start with
other_memory : Runs kind (with_memory [] after_start) 5 (Err run.OtherMemory) (with_memory [] after_start)
other_memory = ((512, refl, λ e. omega (arith, e)), refl)

no_length : Starts (with_memory [] after_start) (Err start.Length) (with_memory [] after_start)
no_length = ((λ a. omega (arith, a.one_at_least)), refl)

not_ended : Tallies (processor_of after_start) (Running 512) (sectors_of after_start) [] (Err tally.NotEnded)
not_ended = refl

feeds : Feeds after_start (7 ∷ []) 1 after_feed
feeds = record {
  offered = record {
    offers = one_offered {bs = []} none_offered (record { waits_last = refl; slot_used = refl; printed_same = refl; paper_same = refl });
    among = lit≤ tt;
    until = inl refl;
  };
  aside = record { processor_same = refl; disk_same = refl; phase_same = refl };
}

halts : Runs kind after_feed 9 (Ok (record { count = 3; stop = stop.Ended Halt })) after_halt
unfolding action decoded
halts = goes_on refl
    (at_halt {n = 2} {m₁ = (at (moved taken) (console [] 2 (7 ∷ []) 3) (Running 512)).machine} (lit< tt)
    (one_step {m₁ = (at taken (console [] 2 [] 4) (Running 512)).machine}
    (one_step no_step (took {p = λ byte. gets (register 1) byte (moved begun)} {byte = 7} refl (record { first_waited = refl; slots_after = refl; printed_same = refl; paper_same = refl }) refl refl))
    (printed refl (record { printed_last = refl; paper_used = refl; waiting_same = refl; slots_same = refl }) refl refl))
    (record { asks = refl; disk_same = refl; console_same = refl }))
    refl

-- an ended station answers 0 and its ending
again : Runs kind after_halt 9 (Ok (record { count = 0; stop = stop.Ended Halt })) after_halt
again = has_ended refl refl refl refl

-- a printed byte is not collected yet
uncollected : Starts after_halt (Err start.Uncollected) after_halt
uncollected = (record { whole_sectors = refl; one_at_least = lit≤ tt; at_most = lit≤ tt }, (λ e. let z : ◌≡◌ {A = ℕ} 0 1 = cc in omega arith), refl)

collects : Collects kind after_halt (0 ∷ 0 ∷ []) 1 after_collection (7 ∷ 0 ∷ [])
collects = record {
  pulled = record {
    pulls = one_pulled {bs = []} none_pulled (record { first_printed = refl; paper_after = refl; waiting_same = refl; slots_same = refl });
    fits_room = lit≤ tt;
    until = inr refl;
  };
  fits_buffer = lit≤ tt;
  rest_same = refl;
  aside = record { processor_same = refl; disk_same = refl; phase_same = refl };
}

-- eight points of seventeen
told : List Mark
told = Word (register 1) 7 5 ∷ Byte 600 0 9 ∷ Ends Halt 3 ∷ []

tells : Tell (pieces 10 sheet) told
unfolding told spelled
tells =
    one_line (refl, lit≤ tt, record { some = lit≤ tt; few = lit≤ tt })
    (one_line (refl, lit≤ tt, lit≤ tt, record { some = lit≤ tt; few = lit≤ tt })
    (one_line (refl, record { some = lit≤ tt; few = lit≤ tt }) no_lines))

earns : Earn (processor_of after_collection) (sectors_of after_collection) Halt told 8
unfolding told
earns = one_mark (all_points refl) (one_mark (no_points (λ h. omega (arith, h.0))) (one_mark (all_points refl) no_marks))

points : Tallies (processor_of after_collection) (Ended 512 Halt) (sectors_of after_collection) sheet (Ok 8)
points = (Halt, refl, (lit≤ tt, (told, tells, earns)))

-- X is no letter of a sheet
fault : Fault
fault = record { line = 1; field = 1; cause = Spelling }

out_of_form : Tallies (processor_of after_collection) (Ended 512 Halt) (sectors_of after_collection) (88 ∷ 10 ∷ []) (Err (tally.Form fault))
unfolding marks every_ending fault
out_of_form = (Halt, refl, (lit≤ tt, refl))

-- a sheet of one byte too many
too_long : Tallies (processor_of after_collection) (Ended 512 Halt) (sectors_of after_collection) (replicate 65537 10) (Err tally.TooLong)
too_long = let size : length (replicate {A = ℕ} 65537 10) ≡ 65537 = length-replicate {A = ℕ} 65537 10 in (Halt, refl, omega (arith, size))

-- a tally of another memory
other_tally : Tallies (processor_of (with_memory [] after_collection)) (Ended 512 Halt) (sectors_of after_collection) sheet (Err tally.OtherMemory)
other_tally = (512, refl, λ e. omega (arith, e))

pub example : Example
example =
    let begins = ran (started starts) waits in
    let refused = start_refused [] start.Length _ (run_refused [] 5 run.OtherMemory _ begins other_memory) no_length in
    let early = tallied [] (Err tally.NotEnded) refused not_ended in
    let ended = ran (ran (fed_bytes early feeds) halts) again in
    let emptied = collected_bytes (start_refused _ start.Uncollected _ ended uncollected) collects in
    let marked = tallied sheet (Ok 8) emptied points in
    let wrong = tallied (88 ∷ 10 ∷ []) (Err (tally.Form fault)) marked out_of_form in
    let long = tallied (replicate 65537 10) (Err tally.TooLong) wrong too_long in
    tally_refused [] sheet tally.OtherMemory long other_tally
