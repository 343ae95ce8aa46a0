-- What reads give after further calls, and what is known of an area then.
use Rattle.std.proofs.Common.{◌≡◌, ℕ, List, [], ◌∷◌, ◌++◌, take, refl, ap, sym, ◌∙◌}
use Rattle.disk_model.specs.declared.area.Area.{Area}
use Rattle.disk_model.specs.declared.area.Area.TheVariants.{Journal0, Journal1, Check2, Check3}
use Rattle.disk_model.specs.declared.areas.Areas.{Areas}
use Rattle.disk_model.specs.declared.call.Call.{Call}
use Rattle.disk_model.specs.declared.call.Call.TheVariants.{Write, Cut, Sync}
use Rattle.disk_model.specs.Areas.{bytes_of, with_bytes}
use Rattle.disk_model.specs.Calls.{Told, and_then, own, area_bytes, reads, kept}
use Rattle.disk_model.specs.Steps.{Step, Put, Shrink, Flush, Kept, after, changed, written, step_on, steps_on, reading}
use Rattle.disk_model.proofs.OwnSteps.{own-append, after-append, steps_on-append}

-- after further calls a read of an area gives what their steps make of it
pub area_bytes-and_then : (area : Area) (t : Told) (calls : List Call) → area_bytes area (and_then t calls) ≡ after (area_bytes area t) (own area calls)
area_bytes-and_then area t calls = ap (after (bytes_of area t.start)) (own-append area t.calls calls) ∙ after-append (bytes_of area t.start) (own area t.calls) (own area calls)

-- after further calls more is known of an area by their steps
pub kept-and_then : (area : Area) (t : Told) (calls : List Call) → kept area (and_then t calls) ≡ steps_on (kept area t) (own area calls)
kept-and_then area t calls =
    let k : Kept = record { bytes = bytes_of area t.start; pending = [] } in
    ap (steps_on k) (own-append area t.calls calls) ∙ steps_on-append k (own area t.calls) (own area calls)

reading-step : (k : Kept) (step : Step) → reading (step_on k step) ≡ changed (reading k) step
reading-step k (Put at bytes) = after-append k.bytes k.pending (Put at bytes ∷ [])
reading-step k (Shrink len) = after-append k.bytes k.pending (Shrink len ∷ [])
reading-step k Flush = refl

pub reading-steps : (k : Kept) (steps : List Step) → reading (steps_on k steps) ≡ after (reading k) steps
reading-steps k [] = refl
reading-steps k (step ∷ steps) = reading-steps (step_on k step) steps ∙ ap (λ f. after f steps) (reading-step k step)

-- what is known of an area tells what a read of it gives
pub reading-kept : (area : Area) (t : Told) → reading (kept area t) ≡ area_bytes area t
reading-kept area t = reading-steps (record { bytes = bytes_of area t.start; pending = [] }) (own area t.calls)

four : (a b c d : List ℕ) → Areas
four a b c d = record { journal0 = a; journal1 = b; check2 = c; check3 = d }

pub same_areas : (x y : Areas) → x.journal0 ≡ y.journal0 → x.journal1 ≡ y.journal1 → x.check2 ≡ y.check2 → x.check3 ≡ y.check3 → x ≡ y
unfolding four
same_areas x y a b c d =
    ap (λ v. four v x.journal1 x.check2 x.check3) a
    ∙ ap (λ v. four y.journal0 v x.check2 x.check3) b
    ∙ ap (λ v. four y.journal0 y.journal1 v x.check3) c
    ∙ ap (λ v. four y.journal0 y.journal1 y.check2 v) d

pub reads-and_then : (t : Told) (calls : List Call) (x : Areas) → ((area : Area) → bytes_of area x ≡ after (area_bytes area t) (own area calls)) → reads (and_then t calls) ≡ x
reads-and_then t calls x each =
    same_areas (reads (and_then t calls)) x
    (area_bytes-and_then Journal0 t calls ∙ sym (each Journal0))
    (area_bytes-and_then Journal1 t calls ∙ sym (each Journal1))
    (area_bytes-and_then Check2 t calls ∙ sym (each Check2))
    (area_bytes-and_then Check3 t calls ∙ sym (each Check3))

each_written : (t : Told) (area : Area) (at : ℕ) (bytes : List ℕ) (b : Area) → bytes_of b (with_bytes area (written at bytes (bytes_of area (reads t))) (reads t)) ≡ after (area_bytes b t) (own b (Write area at bytes ∷ []))
each_written t Journal0 at bytes Journal0 = refl
each_written t Journal0 at bytes Journal1 = refl
each_written t Journal0 at bytes Check2 = refl
each_written t Journal0 at bytes Check3 = refl
each_written t Journal1 at bytes Journal0 = refl
each_written t Journal1 at bytes Journal1 = refl
each_written t Journal1 at bytes Check2 = refl
each_written t Journal1 at bytes Check3 = refl
each_written t Check2 at bytes Journal0 = refl
each_written t Check2 at bytes Journal1 = refl
each_written t Check2 at bytes Check2 = refl
each_written t Check2 at bytes Check3 = refl
each_written t Check3 at bytes Journal0 = refl
each_written t Check3 at bytes Journal1 = refl
each_written t Check3 at bytes Check2 = refl
each_written t Check3 at bytes Check3 = refl

-- a write changes what a read of its area gives
pub reads_written : (t : Told) (area : Area) (at : ℕ) (bytes : List ℕ) → reads (and_then t (Write area at bytes ∷ [])) ≡ with_bytes area (written at bytes (bytes_of area (reads t))) (reads t)
reads_written t area at bytes = reads-and_then t (Write area at bytes ∷ []) _ (each_written t area at bytes)

each_cut : (t : Told) (area : Area) (len : ℕ) (b : Area) → bytes_of b (with_bytes area (take len (bytes_of area (reads t))) (reads t)) ≡ after (area_bytes b t) (own b (Cut area len ∷ []))
each_cut t Journal0 len Journal0 = refl
each_cut t Journal0 len Journal1 = refl
each_cut t Journal0 len Check2 = refl
each_cut t Journal0 len Check3 = refl
each_cut t Journal1 len Journal0 = refl
each_cut t Journal1 len Journal1 = refl
each_cut t Journal1 len Check2 = refl
each_cut t Journal1 len Check3 = refl
each_cut t Check2 len Journal0 = refl
each_cut t Check2 len Journal1 = refl
each_cut t Check2 len Check2 = refl
each_cut t Check2 len Check3 = refl
each_cut t Check3 len Journal0 = refl
each_cut t Check3 len Journal1 = refl
each_cut t Check3 len Check2 = refl
each_cut t Check3 len Check3 = refl

-- so does a cut
pub reads_cut : (t : Told) (area : Area) (len : ℕ) → reads (and_then t (Cut area len ∷ [])) ≡ with_bytes area (take len (bytes_of area (reads t))) (reads t)
reads_cut t area len = reads-and_then t (Cut area len ∷ []) _ (each_cut t area len)

each_synced : (t : Told) (b : Area) → bytes_of b (reads t) ≡ after (area_bytes b t) (own b (Sync ∷ []))
each_synced t Journal0 = refl
each_synced t Journal1 = refl
each_synced t Check2 = refl
each_synced t Check3 = refl

-- a sync changes none
pub reads_synced : (t : Told) → reads (and_then t (Sync ∷ [])) ≡ reads t
reads_synced t = reads-and_then t (Sync ∷ []) (reads t) (each_synced t)

-- what stands for the reads goes on to do so after a write
pub keeps_write : (start : Areas) (old calls : List Call) (before now : Areas) (area : Area) (at : ℕ) (bytes : List ℕ)
    → before ≡ reads (record { start = start; calls = old })
    → now ≡ with_bytes area (written at bytes (bytes_of area before)) before
    → calls ≡ old ++ Write area at bytes ∷ []
    → now ≡ reads (record { start = start; calls = calls })
keeps_write start old calls before now area at bytes stands done told =
    let t : Told = record { start = start; calls = old } in
    done ∙ ap (λ x. with_bytes area (written at bytes (bytes_of area x)) x) stands
    ∙ sym (reads_written t area at bytes)
    ∙ ap (λ cs. reads (record { start = start; calls = cs })) (sym told)

-- after a cut
pub keeps_cut : (start : Areas) (old calls : List Call) (before now : Areas) (area : Area) (len : ℕ)
    → before ≡ reads (record { start = start; calls = old })
    → now ≡ with_bytes area (take len (bytes_of area before)) before
    → calls ≡ old ++ Cut area len ∷ []
    → now ≡ reads (record { start = start; calls = calls })
keeps_cut start old calls before now area len stands done told =
    let t : Told = record { start = start; calls = old } in
    done ∙ ap (λ x. with_bytes area (take len (bytes_of area x)) x) stands
    ∙ sym (reads_cut t area len)
    ∙ ap (λ cs. reads (record { start = start; calls = cs })) (sym told)

-- and after a sync
pub keeps_sync : (start : Areas) (old calls : List Call) (now : Areas)
    → now ≡ reads (record { start = start; calls = old })
    → calls ≡ old ++ Sync ∷ []
    → now ≡ reads (record { start = start; calls = calls })
keeps_sync start old calls now stands told =
    let t : Told = record { start = start; calls = old } in
    stands ∙ sym (reads_synced t) ∙ ap (λ cs. reads (record { start = start; calls = cs })) (sym told)

-- what a read gives, by the name of the area
pub reads-bytes : (t : Told) (area : Area) → bytes_of area (reads t) ≡ area_bytes area t
reads-bytes t Journal0 = refl
reads-bytes t Journal1 = refl
reads-bytes t Check2 = refl
reads-bytes t Check3 = refl
