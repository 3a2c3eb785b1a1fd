use Rattle.json_text.proofs.Names.{◌≡◌, ◌-◌, ◌<◌, ◌≤◌, take, drop, chars}
use Rattle.json_strings.specs.Spelling.{scalars_in}
use Rattle.json_strings.specs.Hashes.{hash_from, after_words, hash_of}
use Rattle.json_strings.proofs.hashes.words_hash.Given as goal

abbrev pub invariant-loop-k : goal.invariant-loop-k
invariant-loop-k l = record {
  from : l.at ≤ l.k;
  to : l.k < l.end;
  same : hash_from l.factor (after_words l.hash) (scalars_in (chars (take (l.end - l.k) (drop l.k l.text)))) ≡ hash_of l.factor (scalars_in (chars (take l.len (drop l.at l.text))));
}

abbrev pub decreases-loop-k : goal.decreases-loop-k
decreases-loop-k l = l.end - l.k
