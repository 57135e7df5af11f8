mod RefusalLemmas
