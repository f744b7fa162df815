mod AddressesRead
