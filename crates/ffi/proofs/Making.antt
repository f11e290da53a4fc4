-- Calls that are made one after another.
use Rattle.std.proofs.Common.{◌≡◌, ℕ, ◌+◌, ◌<◌, Bool, true, false, List, [], ◌∷◌, ◌++◌, length, get_or, take, drop, set, replicate, sym, refl, ap, ◌∙◌, subst, arith}
use Rattle.std.proofs.lemmas.List.{take_more, take_more_set, drop-drop, drop-set-lt}
use Rattle.console.specs.Consoles.{Console, Kind}
use Rattle.disk.specs.Disks.{Disk}
use Rattle.station.specs.declared.unit.Phase.TheVariants.{Unstarted}
use Rattle.station.specs.declared.unit.Station.{Station}
use Rattle.ffi.specs.declared.call.Call.{Call}
use Rattle.ffi.specs.declared.call.Reply.{Reply}
use Rattle.ffi.specs.Calls.{Bench, bench, Answers}
use Rattle.ffi.specs.Serves.{new_bench, Serves, none_made, one_made, Served}
use Rattle.ffi.specs.Given.{console_given, kind_given, Buffers, Finished}

-- A station with 64 zeros that is not started is a new one.
pub begun : (kind : Kind) (given : List ℕ) (s : Station) (m : List ℕ) (d : Disk) (k : Console) (output : List ℕ) → s.registers ≡ replicate 64 0 → s.phase ≡ Unstarted
    → Serves kind given (new_bench m d k output) [] [] (bench s m d k output)
begun kind given s m d k output zeros unstarted =
    let is : bench s m d k output ≡ new_bench m d k output = λ i. record { registers = zeros i; phase = unstarted i; memory = m; disk = d; console = k; output = output } in
    subst (λ b. Serves kind given (new_bench m d k output) [] [] b) (sym is) none_made

-- One more call, whose reply goes to its place.
pub made_more : {kind : Kind} {given : List ℕ} {b b₁ : Bench} (b₂ : Bench) (calls : List Call) (replies : List Reply) (n : ℕ) (call : Call) (reply : Reply) → n < length calls → n < length replies
    → Serves kind given b (take n calls) (take n replies) b₁ → Answers kind (get_or calls n call) given b₁ reply b₂
    → Serves kind given b (take (n + 1) calls) (take (n + 1) (set replies n reply)) b₂
made_more {kind} {given} {b} b₂ calls replies n call reply in_calls in_replies so_far answers =
    subst (λ cs. Serves kind given b cs (take (n + 1) (set replies n reply)) b₂) (sym (take_more calls n call in_calls))
    (subst (λ rs. Serves kind given b (take n calls ++ (get_or calls n call ∷ [])) rs b₂) (sym (take_more_set replies n reply in_replies)) (one_made so_far answers))

-- An answer to a call is one to any call that is equal.
pub equal_call : {kind : Kind} {given : List ℕ} {b b' : Bench} {reply : Reply} (call call' : Call) → call ≡ call' → Answers kind call given b reply b' → Answers kind call' given b reply b'
equal_call {kind} {given} {b} {b'} {reply} call call' is answers = subst (λ c. Answers kind c given b reply b') is answers

-- The replies past it are as they were.
pub rest_more : (before replies : List Reply) (n : ℕ) (reply : Reply) → drop n replies ≡ drop n before → drop (n + 1) (set replies n reply) ≡ drop (n + 1) before
rest_more before replies n reply same =
    drop-set-lt (n + 1) replies n reply (omega arith) ∙ sym (drop-drop 1 n replies) ∙ ap (λ l. drop 1 l) same ∙ drop-drop 1 n before

-- Calls that were made on a console that is the given one.
pub finished : (scripted : Bool) (kind : Kind) (k : Console) (text : List ℕ) (room : ℕ) {given : List ℕ} {d : Disk} {calls : List Call} (before : Buffers) {count : ℕ} (after : Buffers) {d' : Disk} {k' : Console}
    → kind ≡ kind_given scripted → k ≡ console_given scripted text room → (scripted ≡ false → after.paper ≡ before.paper)
    → (s : Station) × Served kind given (new_bench before.memory d k before.output) calls before.replies count after.replies (bench s after.memory d' k' after.output)
    → Finished scripted given d (console_given scripted text room) calls before count after
finished scripted kind k text room {given} {d} {calls} before {count} after {d'} {k'} kinds consoles paper (s, served) = record {
  left = bench s after.memory d' k' after.output;
  served =
      subst (λ x. Served x given (new_bench before.memory d (console_given scripted text room) before.output) calls before.replies count after.replies (bench s after.memory d' k' after.output)) kinds
      (subst (λ x. Served kind given (new_bench before.memory d x before.output) calls before.replies count after.replies (bench s after.memory d' k' after.output)) consoles served);
  memory_is = refl;
  output_is = refl;
  paper_same = paper;
}

-- A flag is not both.
pub clash : {A : Type 0} (b : Bool) → b ≡ true → b ≡ false → A
clash b is isnt = let z : ◌≡◌ {A = ℕ} 0 1 = cc in absurd (omega arith)
