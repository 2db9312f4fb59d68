-- How one thing that happens to a scene follows another. Assumes nothing.
use Rattle.std.proofs.Common.{◌≡◌, refl, ap, ◌∙◌}
use Rattle.tape.specs.declared.Tape.{Tape}
use Rattle.tape.proofs.Writing.{on_none, on_then, on_as}
use Rattle.client.specs.declared.Scene.{Scene}
use Rattle.client.specs.Sides.{Played, still, and_then, Plays}

-- nothing happens
pub plays_still : (s : Scene) (was : Tape) → Plays (still s) was s was
plays_still s was = record { scene = refl; puts = on_none was }

-- the same by another name
pub plays_as : {p q : Played} {was now : Tape} {s : Scene} → p ≡ q → Plays p was s now → Plays q was s now
plays_as e h = record { scene = h.scene ∙ ap (λ (x : Played). x.scene) e; puts = on_as (ap (λ (x : Played). x.words) e) h.puts }

-- one thing, and then another from where it ended
pub plays_then : {p : Played} (f : Scene → Played) {was mid now : Tape} {s t : Scene} → Plays p was s mid → Plays (f s) mid t now
    → Plays (and_then p f) was t now
unfolding and_then
plays_then {p} f h k =
    record {
      scene = k.scene ∙ ap (λ (x : Scene). (f x).scene) h.scene;
      puts = on_then h.puts (on_as (ap (λ (x : Scene). (f x).words) h.scene) k.puts);
    }
